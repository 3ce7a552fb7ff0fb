-- The result for a statement is proved correct, given that of the statements in it.
use Rattle.std.proofs.Common.{◌≡◌, ℕ, ◌+◌, ◌<◌, ◌≤◌, List, [], ◌∷◌, ◌++◌, map, flat_map, drop, length, get_or, slice_get, Option, Some, refl, ap, sym, ◌∙◌, subst}
use Rattle.std.proofs.lemmas.List.{drop_all}
use Rattle.std.proofs.lemmas.Option.{slice_get-get_or}
use Rattle.ti_lang.specs.declared.program.stmts.Stmt.{Stmt}
use Rattle.ti_lang.specs.Program.Statements.{NumberedStm, numbered_stms}
use Rattle.ti_lang.specs.Program.Statements as st
use Rattle.ti_lang.specs.Program.Classes.{ProgramView}
use Rattle.ti_lang.specs.Program.Views.{statement_of}
use Rattle.ti_rules.specs.declared.refusal.Refusal.{Refusal}
use Rattle.ti_rules.specs.Mirrors.First.{earlier_of, earliest}
use Rattle.ti_rules.specs.StmtInContext.{StmtContext, StmtInContext, stands, inside, inside_all}
use Rattle.ti_rules.specs.Broken.Statements.{statement_refusals, standing_refusals}
use Rattle.ti_rules.specs.SingleRules.{single_refusals_at, standing_single_refusals}
use Rattle.ti_rules.proofs.Lemmas.{sooner_none, sooner_assoc, first_cons_each, first_append_each}
use Rattle.ti_types.proofs.Lemmas.{drop_next, each_step}
use Rattle.ti_check.specs.declared.reports.Refusals.{Refusals}
use Rattle.ti_check.specs.Mirrors.Refusals.{AreFirstRefusals, AreStmtRefusals, inner_statements}

-- ---- one statement

inside_is : (p : ProgramView) (around : StmtContext) (x : NumberedStm) → inside p around x ≡ stands around x ∷ inner_statements p around x
inside_is p around (st.Block body) = refl
inside_is p around (st.If at c a) = refl
inside_is p around (st.IfElse at c a b) = refl
inside_is p around (st.While at c body) = refl
inside_is p around (st.For at first c update body) = refl
inside_is p around (st.Foreach at number domain body) = refl
inside_is p around x = refl

in_front : (g : StmtInContext → List Refusal) (y : StmtInContext) (ys : List StmtInContext) (a b r : Option Refusal) → r ≡ earlier_of a b → a ≡ earliest (g y)
    → b ≡ earliest (flat_map g ys) → r ≡ earliest (flat_map g (y ∷ ys))
in_front g y ys a b r is is_a is_b = is ∙ ap (λ z. earlier_of z b) is_a ∙ ap (earlier_of (earliest (g y))) is_b ∙ sym (first_cons_each g y ys)

-- a statement with those in it
pub whole_found : (p : ProgramView) (around : StmtContext) (x : NumberedStm) (own inner f : Refusals)
    → AreFirstRefusals (statement_refusals p around x) (single_refusals_at p around x) own → AreStmtRefusals p (inner_statements p around x) inner
    → f.types ≡ earlier_of own.types inner.types → f.single ≡ earlier_of own.single inner.single → AreStmtRefusals p (inside p around x) f
whole_found p around x own inner f is_own is_inner types single =
    subst (λ l. AreStmtRefusals p l f) (sym (inside_is p around x)) (
      in_front (standing_refusals p) (stands around x) (inner_statements p around x) own.types inner.types f.types types is_own.0 is_inner.0,
      in_front (standing_single_refusals p) (stands around x) (inner_statements p around x) own.single inner.single f.single single is_own.1 is_inner.1,
    )

-- ---- several

in_both : (g : StmtInContext → List Refusal) (xs ys : List StmtInContext) (a b r : Option Refusal) → r ≡ earlier_of a b → a ≡ earliest (flat_map g xs) → b
    ≡ earliest (flat_map g ys) → r ≡ earliest (flat_map g (xs ++ ys))
in_both g xs ys a b r is is_a is_b = is ∙ ap (λ z. earlier_of z b) is_a ∙ ap (earlier_of (earliest (flat_map g xs))) is_b ∙ sym (first_append_each g xs ys)

-- statements before others
pub both_found : (p : ProgramView) (xs ys : List StmtInContext) (a b f : Refusals) → AreStmtRefusals p xs a → AreStmtRefusals p ys b → f.types
    ≡ earlier_of a.types b.types → f.single ≡ earlier_of a.single b.single → AreStmtRefusals p (xs ++ ys) f
both_found p xs ys a b f is_a is_b types single = (
  in_both (standing_refusals p) xs ys a.types b.types f.types types is_a.0 is_b.0,
  in_both (standing_single_refusals p) xs ys a.single b.single f.single single is_a.1 is_b.1,
)

-- the same statements
pub same_found : (p : ProgramView) (xs ys : List StmtInContext) (f : Refusals) → xs ≡ ys → AreStmtRefusals p xs f → AreStmtRefusals p ys f
same_found p xs ys f is found = subst (λ l. AreStmtRefusals p l f) is found

-- ---- one after the other

-- what was found so far, and what counts of the rest, count of the whole
abbrev pub Left : List Refusal → List Refusal → Refusals → List Refusal → List Refusal → Type 0
Left types single f types_left single_left = (earliest types ≡ earlier_of f.types (earliest types_left)) × (earliest single ≡ earlier_of f.single (earliest single_left))

nil_sooner : (a o : Option Refusal) → o ≡ earliest [] → a ≡ earlier_of o a
unfolding earliest earlier_of
nil_sooner a o is = ap (λ z. earlier_of z a) (sym is)

pub left_first : (types single : List Refusal) (f : Refusals) → AreFirstRefusals [] [] f → Left types single f types single
left_first types single f is = (nil_sooner (earliest types) f.types is.0, nil_sooner (earliest single) f.single is.1)

-- what counts of the statements from a number on
abbrev pub rest_of : ProgramView → StmtContext → List Stmt → ℕ → List StmtInContext
rest_of p around xs i = inside_all p around (numbered_stms (map statement_of (drop i xs)))

abbrev pub LeftOf : ProgramView → StmtContext → List Stmt → Refusals → ℕ → Type 0
LeftOf p around xs f i =
    let whole = inside_all p around (numbered_stms (map statement_of xs)) in
    Left (flat_map (standing_refusals p) whole) (flat_map (standing_single_refusals p) whole) f
    (flat_map (standing_refusals p) (rest_of p around xs i)) (flat_map (standing_single_refusals p) (rest_of p around xs i))

next_left : (g : StmtInContext → List Refusal) (p : ProgramView) (around : StmtContext) (xs : List Stmt) (i : ℕ) (x : Stmt) (whole found a next : Option Refusal) → i < length xs → x ≡ get_or xs i x
    → whole ≡ earlier_of found (earliest (flat_map g (rest_of p around xs i))) → a ≡ earliest (flat_map g (inside p around (statement_of x))) → next ≡ earlier_of found a
    → whole ≡ earlier_of next (earliest (flat_map g (rest_of p around xs (i + 1))))
next_left g p around xs i x whole found a next lt here is is_a is_next =
    let rest = rest_of p around xs (i + 1) in
    is ∙ ap (λ l. earlier_of found (earliest (flat_map g (inside_all p around (numbered_stms (map statement_of l)))))) (drop_next xs i x lt)
    ∙ ap (λ z. earlier_of found (earliest (flat_map g (inside p around (statement_of z) ++ rest)))) (sym here)
    ∙ ap (earlier_of found) (first_append_each g (inside p around (statement_of x)) rest)
    ∙ sym (sooner_assoc found (earliest (flat_map g (inside p around (statement_of x)))) (earliest (flat_map g rest)))
    ∙ sym (ap (λ z. earlier_of (earlier_of found z) (earliest (flat_map g rest))) is_a)
    ∙ sym (ap (λ z. earlier_of z (earliest (flat_map g rest))) is_next)

pub left_next : (p : ProgramView) (around : StmtContext) (xs : List Stmt) (i : ℕ) (x : Stmt) (found a next : Refusals) → i < length xs → x
    ≡ get_or xs i x → LeftOf p around xs found i → AreStmtRefusals p (inside p around (statement_of x)) a
    → next.types ≡ earlier_of found.types a.types → next.single ≡ earlier_of found.single a.single → LeftOf p around xs next (i + 1)
left_next p around xs i x found a next lt here left is_a types single = (
  next_left (standing_refusals p) p around xs i x _ found.types a.types next.types lt here left.0 is_a.0 types,
  next_left (standing_single_refusals p) p around xs i x _ found.single a.single next.single lt here left.1 is_a.1 single,
)

sooner_nil : (a : Option Refusal) → earlier_of a (earliest []) ≡ a
unfolding earliest
sooner_nil a = sooner_none a

pub left_last : (p : ProgramView) (around : StmtContext) (xs : List Stmt) (i : ℕ) (found : Refusals) → length xs ≤ i
    → LeftOf p around xs found i → AreStmtRefusals p (inside_all p around (numbered_stms (map statement_of xs))) found
left_last p around xs i found le left = (
  sym (left.0 ∙ ap (λ l. earlier_of found.types (earliest (flat_map (standing_refusals p) (inside_all p around (numbered_stms (map statement_of l)))))) (drop_all i xs le) ∙ sooner_nil found.types),
  sym (left.1 ∙ ap (λ l. earlier_of found.single (earliest (flat_map (standing_single_refusals p)
      (inside_all p around (numbered_stms (map statement_of l)))))) (drop_all i xs le) ∙ sooner_nil found.single),
)

-- ---- elements by number

pub at_step : {A : Type 0} (g : A → List Refusal) (xs : List A) (i : ℕ) (y : A) (found a next : Option Refusal) → i < length xs → slice_get xs i ≡ Some y → a ≡ earliest (g y) → next ≡ earlier_of found a
    → earlier_of found (earliest (flat_map g (drop i xs))) ≡ earlier_of next (earliest (flat_map g (drop (i + 1) xs)))
at_step g xs i y found a next lt here is_a is =
    let same : get_or xs i y ≡ y = cc (sym (slice_get-get_or xs i y lt) ∙ here) in
    each_step g xs i y found next lt (is ∙ ap (earlier_of found) (is_a ∙ ap (λ z. earliest (g z)) (sym same)))
