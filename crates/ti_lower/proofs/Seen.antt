-- Proves that the parts of a `for` that are generated one after the other are its code.
use Rattle.std.proofs.Common.{◌≡◌, ◌∙◌, refl, ap, ℕ, ◌+◌, length, Option, None, Some, Result}
use Rattle.std.proofs.Common.{OnOk}
use Rattle.std.proofs.lemmas.Result.{on_ok_weaker}
use Rattle.std.specs.declared.boxed.Box.{Box}
use Rattle.std.specs.declared.alloc.Global.{Global}
use Rattle.ti_base.specs.declared.place.Place.{Place}
use Rattle.ti_syntax.specs.Trees.Views.{maybe_of}
use Rattle.ti_lang.specs.declared.program.exprs.Expr.{Expr}
use Rattle.ti_lang.specs.declared.program.stmts.Stmt.{Stmt}
use Rattle.ti_lang.specs.declared.program.stmts.Stmt.TheVariants.{For}
use Rattle.ti_lang.specs.Program.Expressions.{NumberedExp}
use Rattle.ti_lang.specs.Program.Statements.{NumberedStm, MaybeNumbered}
use Rattle.ti_lang.specs.Program.Statements as s
use Rattle.ti_lang.specs.Program.Views.{program_of, expression_of, statement_of}
use Rattle.ti_lang.specs.Typing.TyRef.{ty_view}
use Rattle.ti_lower.specs.declared.body.MethodEmitContext.{MethodEmitContext}
use Rattle.ti_lower.specs.StmtCode.{LoopTargets}
use Rattle.ti_lower.specs.Mirrors.Bodies.{maybe_stm_of, maybe_in, turn_in, stm_in, loop_ended}
use Rattle.ti_lower.specs.Mirrors.Statements.{CodeBuilder, close_branch, trim_slots, turns_on}

pub seen_for : (at : Place) (first : Option (Box Stmt Global)) (c : Option Expr)
    (update : Option (Box Stmt Global)) (body : Box Stmt Global)
    → statement_of (For at first c update body)
    ≡ s.For at (maybe_stm_of first) (maybe_of expression_of c) (maybe_stm_of update)
    (statement_of body.value)
seen_for at None c None body = refl
seen_for at None c (Some update) body = refl
seen_for at (Some first) c None body = refl
seen_for at (Some first) c (Some update) body = refl

-- a `for` whose head, body, update and end are generated one after the other
pub joined_for : {T E : Type 0} (r : Result T E) (b : MethodEmitContext) (l : Option LoopTargets)
    (at : Place) (first update : MaybeNumbered) (c : Option NumberedExp) (body : NumberedStm)
    (w w1 w2 w3 v : CodeBuilder) (slots target kept start : ℕ)
    → slots ≡ length w.names
    → w1 ≡ maybe_in b first l w
    → w2 ≡ turn_in b at (stm_in b body) w1
    → target ≡ length w1.targets → kept ≡ length w1.names → start ≡ length w1.code
    → w3 ≡ maybe_in b update l w2
    → OnOk r (v ≡ trim_slots slots
    (loop_ended b target start c (close_branch (target + 1) kept w3)))
    → OnOk r (v ≡ stm_in b (s.For at first c update body) l w)
joined_for r b l at first update c body w w1 w2 w3 v slots target kept start
    es e1 e2 et ek ea e3 h =
    let ends = λ (m n k j : ℕ) (z : CodeBuilder).
    trim_slots m (loop_ended b n k c (close_branch (n + 1) j z)) in
    let whole = λ (z : CodeBuilder). trim_slots (length w.names)
    (turns_on (program_of b.program.now) b.this (ty_view b.result) b.label_targets.now at c
    (stm_in b body) (maybe_in b update l) z) in
    on_ok_weaker r
    (λ (k : v ≡ ends slots target start kept w3).
    k ∙ ap (λ n. ends n target start kept w3) es
    ∙ ap (λ n. ends (length w.names) n start kept w3) et
    ∙ ap (λ n. ends (length w.names) (length w1.targets) n kept w3) ea
    ∙ ap (λ n. ends (length w.names) (length w1.targets) (length w1.code) n w3) ek
    ∙ ap (ends (length w.names) (length w1.targets) (length w1.code) (length w1.names))
    (e3 ∙ ap (maybe_in b update l) e2)
    ∙ ap whole e1)
    h
