-- The typing results of arguments and ranges, computed from the last to the first, are proved correct.
use Rattle.std.proofs.Common.{◌≡◌, ℕ, ◌+◌, ◌-◌, ◌<◌, ◌≤◌, List, [], ◌++◌, map, drop, length, get_or, flat_map, slice_get, Option, Some, None, option_map, refl, sym, ap, ◌∙◌, subst, append_assoc, arith}
use Rattle.std.proofs.lemmas.List.{drop_all}
use Rattle.ti_base.specs.declared.place.Place.{Place}
use Rattle.ti_lang.specs.declared.program.exprs.Expr.{Expr}
use Rattle.ti_lang.specs.declared.program.exprs.Range.{Range}
use Rattle.ti_lang.specs.Program.Types.{ValueType}
use Rattle.ti_lang.specs.Program.Expressions.{NumberedExp, NumberedExps, NoExp, MoreExp, NumberedRanges, NoRange, MoreRange, Plain, Stepped, numbered_exps, numbered_ranges, place_of_numbered}
use Rattle.ti_lang.specs.Program.Classes.{ProgramView}
use Rattle.ti_lang.specs.Program.Scope.{ScopeContents}
use Rattle.ti_lang.specs.Program.Views.{expression_of, bound_of}
use Rattle.ti_lang.specs.Typing.Expressions.{ExprTyping, operand, and_then_both, append_both, one, type_result, operands, bounds}
use Rattle.ti_rules.specs.Mirrors.First.{earlier_of, earliest}
use Rattle.ti_rules.specs.Parts.{parts, parts_of_all, parts_of_ranges}
use Rattle.ti_rules.specs.Broken.Misplaced.{misplaced_at, misplaced, all_misplaced, bounds_misplaced}
use Rattle.ti_rules.specs.Broken.Expressions.{places_of, refusals_at, exp_refusals}
use Rattle.ti_rules.proofs.Lemmas.{first_append, first_append_each}
use Rattle.ti_types.specs.declared.typed_expr.TypedExpr.{TypedExpr}
use Rattle.ti_types.specs.declared.operands.OperandsTyping.{OperandsTyping}
use Rattle.ti_types.specs.Results.{typed_of, IsTypedExpr}
use Rattle.ti_types.specs.Mirrors.Arguments.{OperandSummary, summary, summary_of, prepend}
use Rattle.ti_types.specs.Mirrors.Walk.{AreTypedOperands, operands_before, operands_in}
use Rattle.ti_types.proofs.Loops.{drop_next}
use Rattle.ti_types.proofs.Summaries.{told_step}

-- ---- arguments

-- the expressions from a number on
abbrev pub rest_of : List Expr → ℕ → NumberedExps
rest_of xs i = numbered_exps (map expression_of (drop i xs))

-- no operands
pub none_found : (p : ProgramView) (s : ScopeContents) (us : List ValueType) (xs : NumberedExps)
    (a : OperandsTyping)
    → xs ≡ NoExp → a.inner ≡ earliest [] → a.misplaced ≡ earliest []
    → option_map summary_of a.types ≡ Some (summary [] [] []) → AreTypedOperands p s xs us a
none_found p s us xs a is is_inner is_misplaced is_types =
    subst (λ z. AreTypedOperands p s z us a) (sym is) (is_inner, is_misplaced, is_types)

pub no_rest : (xs : List Expr) → rest_of xs (length xs) ≡ NoExp
no_rest xs = ap (λ l. numbered_exps (map expression_of l)) (drop_all (length xs) xs (omega arith))

-- the results with an operand prepended
abbrev pub Prepended : Place → Option ValueType → TypedExpr → OperandsTyping → OperandsTyping → Type 0
Prepended at u j a b =
    (b.inner ≡ earlier_of j.first a.inner)
    × (b.misplaced ≡ earlier_of (earliest (misplaced_at at (typed_of j))) a.misplaced)
    × (option_map summary_of b.types
    ≡ and_then_both (operand (typed_of j)) (option_map summary_of a.types)
    (λ t others. Some (prepend at u t others)))

-- one operand more
pub one_more : (p : ProgramView) (s : ScopeContents) (us : List ValueType) (i : ℕ) (e : NumberedExp)
    (rest : NumberedExps) (j : TypedExpr) (a b : OperandsTyping) (at : Place) (u : Option ValueType)
    → IsTypedExpr p s e j → at ≡ place_of_numbered e → u ≡ slice_get us i
    → AreTypedOperands p s rest (drop (i + 1) us) a → Prepended at u j a b
    → AreTypedOperands p s (MoreExp e rest) (drop i us) b
one_more p s us i e rest j a b at u is_j is_at is_u are is =
    let give = λ (q : Place) (w : Option ValueType) (k : ExprTyping) (o : Option OperandSummary).
    and_then_both (operand k) o (λ t others. Some (prepend q w t others)) in
    let told = option_map (summary (places_of rest) (drop (i + 1) us)) (operands p s rest) in (
      is.0 ∙ ap (λ f. earlier_of f a.inner) is_j.1
          ∙ ap (earlier_of (earliest (exp_refusals p s e))) are.0
          ∙ sym (first_append_each (refusals_at p s) (parts e) (parts_of_all rest)),
      is.1 ∙ ap (λ k. earlier_of (earliest (misplaced_at at k)) a.misplaced) is_j.0
          ∙ ap (λ q. earlier_of (earliest (misplaced_at q (type_result p s e))) a.misplaced) is_at
          ∙ ap (earlier_of (earliest (misplaced p s e))) are.1
          ∙ sym (first_append (misplaced p s e) (all_misplaced p s rest)),
      is.2 ∙ ap (λ k. give at u k (option_map summary_of a.types)) is_j.0
          ∙ ap (give at u (type_result p s e)) are.2
          ∙ ap (λ q. give q u (type_result p s e) told) is_at
          ∙ ap (λ w. give (place_of_numbered e) w (type_result p s e) told) is_u
          ∙ told_step us i (place_of_numbered e) (places_of rest) (operand (type_result p s e))
          (operands p s rest),
    )

rest_back : (xs : List Expr) (i : ℕ) (d : Expr) → 0 < i → i ≤ length xs → d ≡ get_or xs (i - 1) d
    → MoreExp (expression_of d) (rest_of xs i) ≡ rest_of xs (i - 1)
rest_back xs i d more_left le is_d =
    let e : i - 1 + 1 ≡ i = omega (arith, more_left) in
    ap (λ z. MoreExp (expression_of z) (rest_of xs i)) is_d
    ∙ sym (ap (λ n. MoreExp (expression_of (get_or xs (i - 1) d)) (rest_of xs n)) e)
    ∙ sym (ap (λ l. numbered_exps (map expression_of l))
    (drop_next xs (i - 1) d (omega (arith, more_left, le))))

-- the one before a number
pub arguments_back : (p : ProgramView) (s : ScopeContents) (us : List ValueType) (xs : List Expr)
    (i : ℕ)
    (d : Expr) (j : TypedExpr) (a b : OperandsTyping) (at : Place) (u : Option ValueType) → 0 < i
    → i ≤ length xs
    → IsTypedExpr p s (expression_of d) j → d ≡ get_or xs (i - 1) d
    → at ≡ place_of_numbered (expression_of d) → u ≡ slice_get us (i - 1)
    → AreTypedOperands p s (rest_of xs i) (drop i us) a → Prepended at u j a b
    → AreTypedOperands p s (rest_of xs (i - 1)) (drop (i - 1) us) b
arguments_back p s us xs i d j a b at u more_left le is_j is_d is_at is_u are is =
    let e : i - 1 + 1 ≡ i = omega (arith, more_left) in
    subst (λ z. AreTypedOperands p s z (drop (i - 1) us) b) (rest_back xs i d more_left le is_d)
    (one_more p s us (i - 1) (expression_of d) (rest_of xs i) j a b at u is_j is_at is_u
    (subst (λ n. AreTypedOperands p s (rest_of xs i) (drop n us) a) (sym e) are) is)

-- ---- ranges

both_assoc : {A : Type 0} (o q r : Option (List A)) → append_both o (append_both q r)
    ≡ append_both (append_both o q) r
both_assoc None q r = refl
both_assoc (Some xs) None r = refl
both_assoc (Some xs) (Some ys) None = refl
both_assoc (Some xs) (Some ys) (Some zs) = ap Some (sym (append_assoc xs ys zs))

parts_are : (rs : NumberedRanges) → parts_of_all (operands_in rs) ≡ parts_of_ranges rs
parts_are NoRange = refl
parts_are (MoreRange (Plain low high) rest) =
    sym (append_assoc (parts low) (parts high) (parts_of_all (operands_in rest)))
    ∙ ap (λ l. (parts low ++ parts high) ++ l) (parts_are rest)
parts_are (MoreRange (Stepped low high step) rest) =
    sym (append_assoc (parts low) (parts high) (parts step ++ parts_of_all (operands_in rest)))
    ∙ sym (append_assoc (parts low ++ parts high) (parts step) (parts_of_all (operands_in rest)))
    ∙ ap (λ l. ((parts low ++ parts high) ++ parts step) ++ l) (parts_are rest)

misplaced_are : (p : ProgramView) (s : ScopeContents) (rs : NumberedRanges)
    → all_misplaced p s (operands_in rs) ≡ bounds_misplaced p s rs
misplaced_are p s NoRange = refl
misplaced_are p s (MoreRange (Plain low high) rest) =
    sym (append_assoc (misplaced p s low) (misplaced p s high)
    (all_misplaced p s (operands_in rest)))
    ∙ ap (λ l. (misplaced p s low ++ misplaced p s high) ++ l) (misplaced_are p s rest)
misplaced_are p s (MoreRange (Stepped low high step) rest) =
    let a = misplaced p s low in
    let b = misplaced p s high in
    let c = misplaced p s step in
    sym (append_assoc a b (c ++ all_misplaced p s (operands_in rest)))
    ∙ sym (append_assoc (a ++ b) c (all_misplaced p s (operands_in rest)))
    ∙ ap (λ l. ((a ++ b) ++ c) ++ l) (misplaced_are p s rest)

types_are : (p : ProgramView) (s : ScopeContents) (rs : NumberedRanges)
    → operands p s (operands_in rs) ≡ bounds p s rs
types_are p s NoRange = refl
types_are p s (MoreRange (Plain low high) rest) =
    let a = one (operand (type_result p s low)) in
    let b = one (operand (type_result p s high)) in
    both_assoc a b (operands p s (operands_in rest)) ∙ ap (append_both (append_both a b))
    (types_are p s rest)
types_are p s (MoreRange (Stepped low high step) rest) =
    let a = one (operand (type_result p s low)) in
    let b = one (operand (type_result p s high)) in
    let c = one (operand (type_result p s step)) in
    both_assoc a b (append_both c (operands p s (operands_in rest)))
    ∙ both_assoc (append_both a b) c (operands p s (operands_in rest))
    ∙ ap (append_both (append_both (append_both a b) c)) (types_are p s rest)

-- what the typing results of the bounds and steps of ranges say of the ranges
pub ranges_told : (p : ProgramView) (s : ScopeContents) (rs : NumberedRanges) (a : OperandsTyping)
    → AreTypedOperands p s (operands_in rs) [] a
    → (a.inner ≡ earliest (flat_map (refusals_at p s) (parts_of_ranges rs)))
    × (a.misplaced ≡ earliest (bounds_misplaced p s rs))
    × (option_map summary_of a.types ≡ option_map (summary (places_of (operands_in rs)) [])
    (bounds p s rs))
ranges_told p s rs a are = (
  are.0 ∙ ap (λ l. earliest (flat_map (refusals_at p s) l)) (parts_are rs),
  are.1 ∙ ap earliest (misplaced_are p s rs),
  are.2 ∙ ap (option_map (summary (places_of (operands_in rs)) [])) (types_are p s rs),
)

-- the ranges from a number on
abbrev pub ranges_from : List Range → ℕ → NumberedRanges
ranges_from rs i = numbered_ranges (map bound_of (drop i rs))

pub no_ranges : (rs : List Range) → operands_in (ranges_from rs (length rs)) ≡ NoExp
no_ranges rs =
    ap (λ l. operands_in (numbered_ranges (map bound_of l))) (drop_all (length rs) rs (omega arith))

pub ranges_back : (rs : List Range) (i : ℕ) (d : Range) → 0 < i → i ≤ length rs → d
    ≡ get_or rs (i - 1) d
    → operands_before (bound_of d) (operands_in (ranges_from rs i))
    ≡ operands_in (ranges_from rs (i - 1))
ranges_back rs i d more_left le is_d =
    let e : i - 1 + 1 ≡ i = omega (arith, more_left) in
    ap (λ z. operands_before (bound_of z) (operands_in (ranges_from rs i))) is_d
    ∙ sym (ap (λ n. operands_before (bound_of (get_or rs (i - 1) d))
    (operands_in (ranges_from rs n))) e)
    ∙ sym (ap (λ l. operands_in (numbered_ranges (map bound_of l)))
    (drop_next rs (i - 1) d (omega (arith, more_left, le))))
