-- Lemmas on statements with optional parts.
use Rattle.std.proofs.Common.{◌≡◌, ℕ, List, [], ◌∷◌, ◌++◌, Option, Some, None, Result, Ok, Err, OnOk, refl, ap, sym, ◌∙◌}
use Rattle.std.specs.declared.alloc.Global.{Global}
use Rattle.std.specs.declared.boxed.Box.{Box}
use Rattle.ti_base.specs.declared.place.Place.{Place}
use Rattle.ti_syntax.specs.declared.tree.exprs.Expr.{Expr}
use Rattle.ti_syntax.specs.declared.tree.stmts.Stmt.{Stmt, If, For}
use Rattle.ti_lang.specs.declared.program.exprs.Expr as numbered_exp
use Rattle.ti_lang.specs.declared.program.stmts.Stmt as numbered
use Rattle.ti_syntax.specs.Trees.Statements as s
use Rattle.ti_syntax.specs.Trees.Views.{maybe_of, exp_of, stm_of}
use Rattle.ti_lang.specs.Program.Expressions.{NumberedExp}
use Rattle.ti_lang.specs.Program.Statements.{NumberedStm, MaybeNumbered}
use Rattle.ti_lang.specs.Program.Statements as m
use Rattle.ti_lang.specs.Program.Types.{Foreach}
use Rattle.ti_lang.specs.Program.Views.{expression_of, statement_of}
use Rattle.ti_syntax.specs.Trees.Expressions.{Exp}
use Rattle.ti_syntax.specs.Trees.Statements.{Stm, MaybeStm}
use Rattle.ti_lang.specs.Scopes.{Site, declares, literals, literals_of, past, past_maybe, site_after, behind_maybe}
use Rattle.ti_lang.specs.Nodes.{Node, node, VariableName, exp_nodes, maybe_nodes, stm_nodes, maybe_stm_nodes}
use Rattle.ti_names.specs.Branched.{numbered_branches}
use Rattle.ti_names.specs.Mirrors.Numbered.{number_exp, number_stm, number_maybe_stm}
use Rattle.ti_names.specs.Seen.{tree_maybe, seen_maybe}
use Rattle.ti_rules.specs.Mirrors.First.{earlier_of}
use Rattle.ti_rules.proofs.Lemmas.{sooner_none}
use Rattle.ti_names.specs.Found.{first_in}
use Rattle.ti_names.proofs.Firsts.{in_none, in_append}

-- an `if` with or without an `else`
abbrev pub branches : Place → Exp → Stm → MaybeStm → Stm
branches at c x s.NoStm = s.If at c x
branches at c x (s.SomeStm y) = s.IfElse at c x y

-- what holds whatever the result
pub on_ok : {T E P : Type 0} (r : Result T E) → P → OnOk r P
on_ok (Ok x) p = p
on_ok (Err x) p = tt

-- behind a match
pub seen_if : (a : Stmt) (at : Place) (c : Expr) (x : Box Stmt Global) (y : Option (Box Stmt Global)) → a ≡ If at c x y → stm_of a ≡ branches at (exp_of c) (stm_of x.value) (tree_maybe y)
seen_if a at c x None is = ap stm_of is
seen_if a at c x (Some y) is = ap stm_of is

pub seen_for : (a : Stmt) (at : Place) (first : Option (Box Stmt Global)) (c : Option Expr) (update : Option (Box Stmt Global)) (body : Box Stmt Global) → a ≡ For at first c update body
    → stm_of a ≡ s.For at (tree_maybe first) (maybe_of exp_of c) (tree_maybe update) (stm_of body.value)
seen_for a at None c None body is = ap stm_of is
seen_for a at None c (Some y) body is = ap stm_of is
seen_for a at (Some x) c None body is = ap stm_of is
seen_for a at (Some x) c (Some y) body is = ap stm_of is

-- where a statement is made
pub held_for : (at : Place) (first : Option (Box numbered.Stmt Global)) (c : Option numbered_exp.Expr) (update : Option (Box numbered.Stmt Global)) (body : Box numbered.Stmt Global)
    → statement_of (numbered.For at first c update body) ≡ m.For at (seen_maybe first) (maybe_of expression_of c) (seen_maybe update) (statement_of body.value)
held_for at None c None body = refl
held_for at None c (Some y) body = refl
held_for at (Some x) c None body = refl
held_for at (Some x) c (Some y) body = refl

pub held_if : (at : Place) (c : numbered_exp.Expr) (x : Box numbered.Stmt Global) (y : Option (Box numbered.Stmt Global))
    → statement_of (numbered.If at c x y) ≡ numbered_branches at (expression_of c) (statement_of x.value) (seen_maybe y)
held_if at c x None = refl
held_if at c x (Some y) = refl

-- ---- what an `if` means

pub number_branches : (site : Site) (at : Place) (c : Exp) (x : Stm) (y : MaybeStm) → number_stm site (branches at c x y)
    ≡ numbered_branches at (number_exp site c) (number_stm site x) (number_maybe_stm (past site x) y)
number_branches site at c x s.NoStm = refl
number_branches site at c x (s.SomeStm y) = refl

pub behind_branches : (site : Site) (at : Place) (c : Exp) (x : Stm) (y : MaybeStm) → site_after site (branches at c x y) ≡ past_maybe (past site x) y
behind_branches site at c x s.NoStm = refl
behind_branches site at c x (s.SomeStm y) = refl

pub literals_branches : (at : Place) (c : Exp) (x : Stm) (y : MaybeStm) → literals (branches at c x y) ≡ literals x ++ literals_of y
literals_branches at c x s.NoStm = sym (append_none (literals x))
  where
    append_none : (xs : List (List ℕ)) → xs ++ [] ≡ xs
    append_none [] = refl
    append_none (x ∷ xs) = ap (λ ys. x ∷ ys) (append_none xs)
literals_branches at c x (s.SomeStm y) = refl

pub in_branches : (site : Site) (at : Place) (c : Exp) (x : Stm) (y : MaybeStm)
    → first_in (stm_nodes site (branches at c x y)) ≡ earlier_of (earlier_of (first_in (exp_nodes site c)) (first_in (stm_nodes site x))) (first_in (maybe_stm_nodes (past site x) y))
in_branches site at c x s.NoStm = in_append (exp_nodes site c) (stm_nodes site x) ∙ sym (sooner_none _) ∙ ap (earlier_of (earlier_of (first_in (exp_nodes site c)) (first_in (stm_nodes site x)))) (sym in_none)
in_branches site at c x (s.SomeStm y) =
    in_append (exp_nodes site c ++ stm_nodes site x) (stm_nodes (past site x) y) ∙ ap (λ f. earlier_of f (first_in (stm_nodes (past site x) y))) (in_append (exp_nodes site c) (stm_nodes site x))

pub in_for : (site : Site) (at : Place) (first : MaybeStm) (c : Option Exp) (update : MaybeStm) (body : Stm) → first_in (stm_nodes site (s.For at first c update body))
    ≡ earlier_of (earlier_of (earlier_of (first_in (maybe_stm_nodes site first)) (first_in (maybe_nodes (behind_maybe site first) c))) (first_in (maybe_stm_nodes (behind_maybe site first) update)))
    (first_in (stm_nodes (past_maybe (behind_maybe site first) update) body))
in_for site at first c update body =
    let inside = behind_maybe site first in
    let a = maybe_stm_nodes site first in
    let b = maybe_nodes inside c in
    let d = maybe_stm_nodes inside update in
    let e = stm_nodes (past_maybe inside update) body in
    in_append ((a ++ b) ++ d) e ∙ ap (λ f. earlier_of f (first_in e)) (in_append (a ++ b) d ∙ ap (λ f. earlier_of f (first_in d)) (in_append a b))

pub in_foreach : (site : Site) (at name_at : Place) (name : List ℕ) (domain : Exp) (body : Stm) → first_in (stm_nodes site (s.Foreach at name_at name domain body))
    ≡ earlier_of (earlier_of (first_in (node site (VariableName name_at name) ∷ [])) (first_in (exp_nodes site domain))) (first_in (stm_nodes (declares site name Foreach) body))
in_foreach site at name_at name domain body =
    let own : Node = node site (VariableName name_at name) in
    in_append (own ∷ exp_nodes site domain) (stm_nodes (declares site name Foreach) body)
    ∙ ap (λ f. earlier_of f (first_in (stm_nodes (declares site name Foreach) body))) (in_append (own ∷ []) (exp_nodes site domain))

pub ruleset statement_bridges = (seen_if, seen_for, held_for, held_if, number_branches, behind_branches, in_branches, in_for)

pub ruleset literal_bridges = (seen_if, seen_for, literals_branches)
