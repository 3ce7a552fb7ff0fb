-- Mirrors the code, for contracts of private functions: the constraints of a statement in its context.
use Rattle.std.specs.Prelude.{ℕ, Bool, if◌then◌else◌, List, [], ◌∷◌, Option, None}
use Rattle.ti_lang.specs.Program.Expressions.{NumberedExp}
use Rattle.ti_lang.specs.Program.Statements.{NumberedStm, MaybeNumbered, NumberedStms}
use Rattle.ti_lang.specs.Program.Scope.{ScopeVariable, contents_of}
use Rattle.ti_blame.specs.declared.reason.Reason.TheVariants.{Always}
use Rattle.ti_blame.specs.declared.mark.Mark.{Mark}
use Rattle.ti_blame.specs.declared.implication.Conclusion.{Conclusion}
use Rattle.ti_blame.specs.declared.implication.Conclusion.TheVariants.{One}
use Rattle.ti_blame.specs.declared.implication.Implication.{Implication}
use Rattle.ti_infer.specs.declared.constraints.site.MethodSite.{MethodSite}
use Rattle.ti_infer.specs.declared.constraints.site.StmtSite.{StmtSite}
use Rattle.ti_infer.specs.Mirrors.Implications.{own_edges, edges, edges_of_maybe, edges_all, inside_foreach, variables_foreach}
use Rattle.ti_infer.specs.Mirrors.Sites.{program_at, method_of_site, inside_of}

abbrev pub variables_at : StmtSite → List ScopeVariable
variables_at a = (contents_of a.scope.now).variables

abbrev pub own_around : StmtSite → ℕ → List Conclusion → NumberedStm → List Implication
own_around a i jump s = own_edges (program_at a.site) (method_of_site a.site) a.whole (inside_of a.inside.now) i jump s

-- with these variables in scope, and what makes parameters and foreach variables single
abbrev pub edges_with : MethodSite → Conclusion → List ScopeVariable → List (ℕ × List (Option Mark)) → ℕ → List Conclusion → NumberedStm → List Implication
edges_with s whole ws inside i jump x = edges (program_at s) (method_of_site s) whole ws inside i jump x

abbrev pub edges_around : StmtSite → ℕ → List Conclusion → NumberedStm → List Implication
edges_around a i jump s = edges (program_at a.site) (method_of_site a.site) a.whole (variables_at a) (inside_of a.inside.now) i jump s

abbrev pub maybe_around : StmtSite → ℕ → List Conclusion → MaybeNumbered → List Implication
maybe_around a i jump s = edges_of_maybe (program_at a.site) (method_of_site a.site) a.whole (variables_at a) (inside_of a.inside.now) i jump s

abbrev pub all_around : StmtSite → ℕ → List Conclusion → NumberedStms → List Implication
all_around a i jump s = edges_all (program_at a.site) (method_of_site a.site) a.whole (variables_at a) (inside_of a.inside.now) i jump s

-- of the body of a foreach
abbrev pub body_around : StmtSite → ℕ → List Conclusion → ℕ → NumberedExp → NumberedStm → List Implication
body_around a i jump variable domain body =
    edges (program_at a.site) (method_of_site a.site) a.whole (variables_foreach (program_at a.site) (method_of_site a.site) a.whole
    (variables_at a) variable domain)
    (inside_foreach (program_at a.site) (method_of_site a.site) a.whole (variables_at a) (inside_of a.inside.now) variable domain) i jump body

abbrev pub always_if : Bool → List Implication
always_if b = if b then record { from = None; then = One Always } ∷ [] else []
