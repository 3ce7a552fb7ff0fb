-- The results for both cases of a jump out of the enclosing loop are proved correct.
use Rattle.std.proofs.Common.{◌≡◌, Bool, true, false, ◌&&◌, ◌||◌, not, is_none, unwrap_or, ℕ, ◌+◌, ◌<◌, ◌≤◌, List, [], ◌++◌, map, length, get_or, Option, Some, None, refl, ap, sym, ◌∙◌, subst, append-nil, true≢false}
use Rattle.std.specs.declared.boxed.Box.{Box}
use Rattle.std.specs.declared.alloc.Global.{Global}
use Rattle.ti_base.specs.declared.place.Place.{Place}
use Rattle.ti_syntax.specs.Trees.Views.{maybe_of}
use Rattle.ti_lang.specs.declared.program.exprs.Expr.{Expr}
use Rattle.ti_lang.specs.declared.program.stmts.Stmt.{Stmt, If, For}
use Rattle.ti_lang.specs.Program.Classes.{NumberedMethod, ProgramView}
use Rattle.ti_lang.specs.Program.Scope.{ScopeVariable, this_of}
use Rattle.ti_lang.specs.Program.Statements.{NumberedStm, MaybeNumbered, numbered_stms}
use Rattle.ti_lang.specs.Program.Statements as st
use Rattle.ti_lang.specs.Program.Views.{expression_of, statement_of}
use Rattle.ti_lang.specs.Typing.Effects.{Doings, no_effects, together, kept_in_loop, doings, doings_of_maybe, return_acts, jump_acts}
use Rattle.ti_rules.specs.declared.rule.Rule.TheVariants.{Y8, S1}
use Rattle.ti_rules.specs.Refusals.{refused_if}
use Rattle.ti_rules.specs.Mirrors.First.{earlier_of, earliest}
use Rattle.ti_rules.specs.StmtInContext.{StmtContext, StmtInContext, doings_of_loop, loop_acts, inside, inside_maybe, inside_all}
use Rattle.ti_rules.specs.Broken.Statements.{statement_refusals}
use Rattle.ti_rules.specs.SingleRules.{is_plain_part, single_refusals_at}
use Rattle.ti_single.specs.declared.statements.Effects.{Effects as EffectsHere}
use Rattle.ti_single.specs.Effects.{effects_of}
use Rattle.ti_single.specs.EffectsAt.{effects_in_loop}
use Rattle.ti_single.specs.Mirrors.Maybe.{maybe_in}
use Rattle.ti_single.proofs.Lemmas.{together_nothing}
use Rattle.ti_check.specs.declared.reports.StmtReport.{StmtReport}
use Rattle.ti_check.specs.Mirrors.Refusals.{AreFirstRefusals, inner_statements, is_simple}
use Rattle.ti_check.specs.Mirrors.Contexts.{jump_in}
use Rattle.ti_check.specs.Mirrors.StmtReport.{with_effects, single_where, found_where, IsStmtReport, doings_inside}
use Rattle.ti_check.proofs.StmtReport.{whole_found, both_found, LeftOf, left_first, left_next, left_last}

-- ---- one statement

pub jump_nowhere : (is_in_loop jump_has : Bool) → is_none (jump_in is_in_loop jump_has) ≡ not is_in_loop
jump_nowhere false jump_has = refl
jump_nowhere true jump_has = refl

abbrev standing_where : NumberedMethod → List ScopeVariable → Bool → Bool → StmtContext
standing_where m variables is_in_loop jump_has = record { method = m; variables = variables; jump_has = jump_in is_in_loop jump_has }

-- what a jump does is nothing to the rules of types
types_where : (p : ProgramView) (m : NumberedMethod) (variables : List ScopeVariable) (is_in_loop jump_has : Bool) (x : NumberedStm)
    → statement_refusals p (standing_where m variables is_in_loop jump_has) x ≡ statement_refusals p (standing_where m variables is_in_loop false) x
types_where p m variables is_in_loop jump_has (st.Break at) = ap (λ z. refused_if z Y8 at) (jump_nowhere is_in_loop jump_has ∙ sym (jump_nowhere is_in_loop false))
types_where p m variables is_in_loop jump_has (st.Continue at) = ap (λ z. refused_if z Y8 at) (jump_nowhere is_in_loop jump_has ∙ sym (jump_nowhere is_in_loop false))
types_where p m variables is_in_loop jump_has x = refl

branch_where : (p : ProgramView) (at : Place) (acts jumps a b plain : Bool) → jumps ≡ false
    → refused_if ((acts || (jumps && a)) && plain) S1 at ≡ refused_if ((acts || (jumps && b)) && plain) S1 at
branch_where p at acts jumps a b plain none = ap (λ z. refused_if ((acts || (z && a)) && plain) S1 at) none ∙ sym (ap (λ z. refused_if ((acts || (z && b)) && plain) S1 at) none)

-- where a statement has no jump, it is nothing to its rule of single values
pub single_alike : (p : ProgramView) (m : NumberedMethod) (variables : List ScopeVariable) (is_in_loop jump_has : Bool) (x : NumberedStm) → (doings p (this_of m) x).jumps ≡ false
    → single_refusals_at p (standing_where m variables is_in_loop jump_has) x ≡ single_refusals_at p (standing_where m variables is_in_loop false) x
single_alike p m variables is_in_loop jump_has (st.If at c a) none =
    branch_where p at (jump_acts (return_acts p m) (doings p (this_of m) (st.If at c a))) (doings p (this_of m) (st.If at c a)).jumps
    (unwrap_or (jump_in is_in_loop jump_has) false) (unwrap_or (jump_in is_in_loop false) false)
    (is_plain_part p (standing_where m variables is_in_loop false) c) none
single_alike p m variables is_in_loop jump_has (st.IfElse at c a b) none =
    branch_where p at (jump_acts (return_acts p m) (doings p (this_of m) (st.IfElse at c a b))) (doings p (this_of m) (st.IfElse at c a b)).jumps (unwrap_or (jump_in is_in_loop jump_has) false)
    (unwrap_or (jump_in is_in_loop false) false) (is_plain_part p (standing_where m variables is_in_loop false) c) none
single_alike p m variables is_in_loop jump_has x none = refl

-- of a statement apart from those in it
pub own_first : (p : ProgramView) (m : NumberedMethod) (variables : List ScopeVariable) (is_in_loop : Bool) (x : NumberedStm)
    (own : StmtReport) → own.types ≡ earliest (statement_refusals p (standing_where m variables is_in_loop false) x)
    → own.single ≡ earliest (single_refusals_at p (standing_where m variables is_in_loop false) x) → own.jumping ≡ earliest (single_refusals_at p (standing_where m variables is_in_loop true) x)
    → (jump_has : Bool) → AreFirstRefusals (statement_refusals p (standing_where m variables is_in_loop jump_has) x)
    (single_refusals_at p (standing_where m variables is_in_loop jump_has) x) (found_where own jump_has)
own_first p m variables is_in_loop x own types single jumping false = (types, single)
own_first p m variables is_in_loop x own types single jumping true = (types ∙ sym (ap earliest (types_where p m variables is_in_loop true x)), jumping)

-- of both
single_both : (a b f : StmtReport) → f.single ≡ earlier_of a.single b.single → f.jumping ≡ earlier_of a.jumping b.jumping → (jump_has : Bool)
    → single_where f jump_has ≡ earlier_of (single_where a jump_has) (single_where b jump_has)
single_both a b f single jumping false = single
single_both a b f single jumping true = jumping

-- a statement with those in it
pub whole_walked : (p : ProgramView) (around : Bool → StmtContext) (x : NumberedStm) (own inner f : StmtReport)
    → ((jump_has : Bool) → AreFirstRefusals (statement_refusals p (around jump_has) x) (single_refusals_at p (around jump_has) x)
    (found_where own jump_has)) → IsStmtReport p (λ jump_has. inner_statements p (around jump_has) x) inner
    → f.types ≡ earlier_of own.types inner.types → f.single ≡ earlier_of own.single inner.single → f.jumping ≡ earlier_of own.jumping inner.jumping → IsStmtReport p (λ jump_has. inside p (around jump_has) x) f
whole_walked p around x own inner f is_own is_inner types single jumping =
    λ jump_has. whole_found p (around jump_has) x (found_where own jump_has) (found_where inner jump_has) (found_where f jump_has)
    (is_own jump_has) (is_inner jump_has) types (single_both own inner f single jumping jump_has)

-- ---- several

pub nothing_walked : (p : ProgramView) (d : EffectsHere) → IsStmtReport p (λ jump_has. []) (with_effects d)
unfolding earliest
nothing_walked p d false = (refl, refl)
nothing_walked p d true = (refl, refl)

-- statements before others
pub both_walked : (p : ProgramView) (xs ys : Bool → List StmtInContext) (a b f : StmtReport) → IsStmtReport p xs a → IsStmtReport p ys b → f.types ≡ earlier_of a.types b.types → f.single ≡ earlier_of a.single b.single
    → f.jumping ≡ earlier_of a.jumping b.jumping → IsStmtReport p (λ jump_has. xs jump_has ++ ys jump_has) f
both_walked p xs ys a b f is_a is_b types single jumping =
    λ jump_has. both_found p (xs jump_has) (ys jump_has) (found_where a jump_has) (found_where b jump_has) (found_where f jump_has)
    (is_a jump_has) (is_b jump_has) types (single_both a b f single jumping jump_has)

-- the same statements
pub same_walked : (p : ProgramView) (xs ys : Bool → List StmtInContext) (w : StmtReport) → xs ≡ ys → IsStmtReport p xs w → IsStmtReport p ys w
same_walked p xs ys w is walked = subst (λ l. IsStmtReport p l w) is walked

-- with the same around them
pub moved_walked : (p q : ProgramView) (a b : Bool → StmtContext) (x y : NumberedStm) (w : StmtReport) → q ≡ p → a ≡ b → x ≡ y
    → IsStmtReport q (λ jump_has. inside q (a jump_has) x) w → IsStmtReport p (λ jump_has. inside p (b jump_has) y) w
moved_walked p q a b x y w is_p is_a is_x walked =
    subst (λ z. IsStmtReport p (λ jump_has. inside p (b jump_has) z) w) is_x
    (subst (λ z. IsStmtReport p (λ jump_has. inside p (z jump_has) x) w) is_a (subst (λ z. IsStmtReport z (λ jump_has. inside z (a jump_has) x) w) is_p walked))

pub moved_doings : (p q : ProgramView) (a b : Bool → StmtContext) (x y : NumberedStm) (d : Doings) → q ≡ p → a ≡ b → x ≡ y → d
    ≡ doings q (this_of (a false).method) x → d ≡ doings p (this_of (b false).method) y
moved_doings p q a b x y d is_p is_a is_x does =
    does ∙ ap (λ z. doings z (this_of (a false).method) x) is_p ∙ ap (λ (z : Bool → StmtContext). doings p (this_of (z false).method) x) is_a ∙ ap (doings p (this_of (b false).method)) is_x

-- ---- loops

pub inside_does : (p : ProgramView) (m : NumberedMethod) (update : MaybeNumbered) (body : NumberedStm) (u w : StmtReport)
    → effects_of u.doings ≡ doings_of_maybe p (this_of m) update → effects_of w.doings ≡ doings p (this_of m) body
    → doings_inside u w ≡ doings_of_loop p m update body
inside_does p m update body u w is_u is_w = ap (λ z. together z (effects_of w.doings)) is_u ∙ ap (together (doings_of_maybe p (this_of m) update)) is_w

-- the body of a loop stands where it is known what a jump does
pub loop_walked : (p : ProgramView) (m : NumberedMethod) (within : Bool → StmtContext) (us : Bool → List StmtInContext) (update : MaybeNumbered) (body : NumberedStm) (u w f : StmtReport) → IsStmtReport p us u
    → effects_of u.doings ≡ doings_of_maybe p (this_of m) update → IsStmtReport p (λ jump_has. inside p (within jump_has) body) w
    → effects_of w.doings ≡ doings p (this_of m) body → f.types ≡ earlier_of u.types w.types
    → f.single ≡ earlier_of u.single (single_where w (jump_acts (return_acts p m) (doings_inside u w))) → f.jumping ≡ earlier_of u.jumping (single_where w (jump_acts (return_acts p m) (doings_inside u w)))
    → IsStmtReport p (λ jump_has. us jump_has ++ inside p (within (loop_acts p m update body)) body) f
loop_walked p m within us update body u w f is_u u_does is_w w_does types single jumping =
    subst (λ z. IsStmtReport p (λ jump_has. us jump_has ++ inside p (within z) body) f)
    (ap (jump_acts (return_acts p m)) (inside_does p m update body u w u_does w_does)) (λ jump_has. both_found p (us jump_has)
    (inside p (within acts) body) (found_where u jump_has) (found_where w acts) (found_where f jump_has) (is_u jump_has) (is_w acts) types (by jump_has))
  where
    acts : Bool
    acts = jump_acts (return_acts p m) (doings_inside u w)

    by : (jump_has : Bool) → single_where f jump_has ≡ earlier_of (single_where u jump_has) (single_where w acts)
    by false = single
    by true = jumping

-- without an update
pub alone_walked : (p : ProgramView) (m : NumberedMethod) (within : Bool → StmtContext) (body : NumberedStm) (d : EffectsHere)
    (u w f : StmtReport) → u ≡ with_effects d → effects_of d ≡ no_effects → IsStmtReport p (λ jump_has. inside p (within jump_has) body) w
    → effects_of w.doings ≡ doings p (this_of m) body → f.types ≡ earlier_of u.types w.types → f.single ≡ earlier_of u.single (single_where w (jump_acts (return_acts p m) (doings_inside u w)))
    → f.jumping ≡ earlier_of u.jumping (single_where w (jump_acts (return_acts p m) (doings_inside u w))) → IsStmtReport p (λ jump_has. inside p (within (loop_acts p m st.NoStm body)) body) f
alone_walked p m within body d u w f is_u none is_w w_does types single jumping =
    loop_walked p m within (λ jump_has. []) st.NoStm body u w f (subst (IsStmtReport p (λ jump_has. [])) (sym is_u) (nothing_walked p d))
    (ap (λ (z : StmtReport). effects_of z.doings) is_u ∙ none) is_w w_does types single jumping

pub alone_does : (p : ProgramView) (m : NumberedMethod) (body : NumberedStm) (d : EffectsHere) (u w f : StmtReport) → u ≡ with_effects d
    → effects_of d ≡ no_effects → effects_of w.doings ≡ doings p (this_of m) body
    → effects_of f.doings ≡ kept_in_loop (doings_inside u w) → effects_of f.doings ≡ kept_in_loop (doings p (this_of m) body)
alone_does p m body d u w f is_u none w_does is = is ∙ ap kept_in_loop (inside_does p m st.NoStm body u w (ap (λ (z : StmtReport). effects_of z.doings) is_u ∙ none) w_does)

-- ---- forms with no parts, or with parts that may be missing

not_simple : {A : Type 0} → false ≡ true → A
not_simple is = absurd (true≢false (sym is))

pub simple_below : (p : ProgramView) (around : StmtContext) (x : NumberedStm) → is_simple x ≡ true → [] ≡ inner_statements p around x
simple_below p around (st.Block body) is = not_simple is
simple_below p around (st.If at c a) is = not_simple is
simple_below p around (st.IfElse at c a b) is = not_simple is
simple_below p around (st.While at c body) is = not_simple is
simple_below p around (st.For at first c update body) is = not_simple is
simple_below p around (st.Foreach at number domain body) is = not_simple is
simple_below p around x is = refl

pub simple_no_loop : (p : ProgramView) (m : NumberedMethod) (x : NumberedStm) → is_simple x ≡ true → no_effects ≡ effects_in_loop p m x
simple_no_loop p m (st.Block body) is = not_simple is
simple_no_loop p m (st.If at c a) is = not_simple is
simple_no_loop p m (st.IfElse at c a b) is = not_simple is
simple_no_loop p m (st.While at c body) is = not_simple is
simple_no_loop p m (st.For at first c update body) is = not_simple is
simple_no_loop p m (st.Foreach at number domain body) is = not_simple is
simple_no_loop p m x is = refl

pub if_below : (p : ProgramView) (around : StmtContext) (at : Place) (c : Expr) (a : Box Stmt Global) (b : Option (Box Stmt Global))
    → inside p around (statement_of a.value) ++ inside_maybe p around (maybe_in b) ≡ inner_statements p around (statement_of (If at c a b))
if_below p around at c a None = append-nil (inside p around (statement_of a.value))
if_below p around at c a (Some b) = refl

pub if_does : (p : ProgramView) (this : Option ℕ) (at : Place) (c : Expr) (a : Box Stmt Global) (b : Option (Box Stmt Global))
    → together (doings p this (statement_of a.value)) (doings_of_maybe p this (maybe_in b)) ≡ doings p this (statement_of (If at c a b))
if_does p this at c a None = together_nothing (doings p this (statement_of a.value))
if_does p this at c a (Some b) = refl

pub if_no_loop : (p : ProgramView) (m : NumberedMethod) (at : Place) (c : Expr) (a : Box Stmt Global) (b : Option (Box Stmt Global)) → no_effects ≡ effects_in_loop p m (statement_of (If at c a b))
if_no_loop p m at c a None = refl
if_no_loop p m at c a (Some b) = refl

pub for_is : (at : Place) (first : Option (Box Stmt Global)) (c : Option Expr) (update : Option (Box Stmt Global)) (body : Box Stmt Global)
    → statement_of (For at first c update body) ≡ st.For at (maybe_in first) (maybe_of expression_of c) (maybe_in update) (statement_of body.value)
for_is at None c None body = refl
for_is at None c (Some update) body = refl
for_is at (Some first) c None body = refl
for_is at (Some first) c (Some update) body = refl

-- ---- one after the other

abbrev pub LeftWhere : ProgramView → (Bool → StmtContext) → List Stmt → StmtReport → ℕ → Type 0
LeftWhere p around xs w i = (jump_has : Bool) → LeftOf p (around jump_has) xs (found_where w jump_has) i

pub where_first : (p : ProgramView) (around : Bool → StmtContext) (xs : List Stmt) (d : EffectsHere) (w : StmtReport) → w ≡ with_effects d → LeftWhere p around xs w 0
where_first p around xs d w is = λ jump_has. left_first _ _ (found_where w jump_has) (subst (λ z. AreFirstRefusals [] [] (found_where z jump_has)) (sym is) (nothing_walked p d jump_has))

pub where_next : (p : ProgramView) (around : Bool → StmtContext) (xs : List Stmt) (i : ℕ) (x : Stmt) (found a next : StmtReport) → i < length xs → x ≡ get_or xs i x → LeftWhere p around xs found i
    → IsStmtReport p (λ jump_has. inside p (around jump_has) (statement_of x)) a → next.types ≡ earlier_of found.types a.types → next.single
    ≡ earlier_of found.single a.single → next.jumping ≡ earlier_of found.jumping a.jumping
    → LeftWhere p around xs next (i + 1)
where_next p around xs i x found a next lt here left is_a types single jumping =
    λ jump_has. left_next p (around jump_has) xs i x (found_where found jump_has) (found_where a jump_has)
    (found_where next jump_has) lt here (left jump_has) (is_a jump_has) types (single_both found a next single jumping jump_has)

pub where_last : (p : ProgramView) (around : Bool → StmtContext) (xs : List Stmt) (i : ℕ) (found : StmtReport) → length xs ≤ i → LeftWhere p around xs found i
    → IsStmtReport p (λ jump_has. inside_all p (around jump_has) (numbered_stms (map statement_of xs))) found
where_last p around xs i found le left = λ jump_has. left_last p (around jump_has) xs i (found_where found jump_has) le (left jump_has)
