-- The typing result of each form of expression is proved correct, given those of its parts.
use Rattle.std.proofs.Common.{◌≡◌, ℕ, suc, false, List, [], ◌∷◌, ◌++◌, map, flat_map, length, slice_get, Option, Some, None, is_some, option_map, option_and_then, refl, sym, ap, ◌∙◌}
use Rattle.ti_base.specs.declared.place.Place.{Place}
use Rattle.ti_lang.specs.declared.program.exprs.Expr.{Expr}
use Rattle.ti_lang.specs.Program.Types.{ValueType, Pt}
use Rattle.ti_lang.specs.Program.Expressions.{NumberedExp, NumberedExps, NumberedRanges, numbered_exps, place_of_numbered}
use Rattle.ti_lang.specs.Program.Expressions as x
use Rattle.ti_lang.specs.Program.Classes.{NumberedMethod, ProgramView}
use Rattle.ti_lang.specs.Program.Scope.{ScopeContents}
use Rattle.ti_lang.specs.Program.Views.{expression_of}
use Rattle.ti_syntax.specs.declared.tree.exprs.BinaryOperator.{BinaryOperator}
use Rattle.ti_lang.specs.Typing.Kinds.{where_true}
use Rattle.ti_lang.specs.Typing.Operators.{binary_type}
use Rattle.ti_lang.specs.Typing.Expressions.{ExprTyping, plain, operand, and_then_both, all_ints, point_literal, rect_literal, range_count, index_type, called, member_typing, type_result, operands, bounds}
use Rattle.ti_rules.specs.declared.refusal.Refusal.{Refusal}
use Rattle.ti_rules.specs.Mirrors.First.{earlier_of, earliest}
use Rattle.ti_lang.specs.Typing.Alike.{erase_dims}
use Rattle.ti_rules.specs.Parts.{parts, parts_of_all, parts_of_ranges}
use Rattle.ti_rules.specs.Broken.Refused.{judged, both_judged, operand_refusal}
use Rattle.ti_rules.specs.Broken.Misplaced.{misplaced_at, misplaced, all_misplaced, bounds_misplaced}
use Rattle.ti_rules.specs.Broken.Calls.{call_refusals, member_refusals}
use Rattle.ti_rules.specs.Broken.Expressions.{places_of, refusals_at, exp_refusals, other_indices}
use Rattle.ti_rules.proofs.Lemmas.{first_append, first_append_each, first_node, count_places}
use Rattle.ti_types.specs.declared.typed_expr.TypedExpr.{TypedExpr}
use Rattle.ti_types.specs.declared.operands.OperandsTyping.{OperandsTyping}
use Rattle.ti_types.specs.Results.{typed_of, IsTypedExpr}
use Rattle.ti_types.specs.Mirrors.Arguments.{OperandSummary, summary, summary_of, parameter_types, summary_call_refusal, summary_call}
use Rattle.ti_types.specs.Mirrors.Nodes.{summary_index_type, summary_other_indices, member_method, summary_member, summary_member_refusal, summary_rect_type, summary_fits_other_dims}
use Rattle.ti_types.specs.Mirrors.Walk.{AreTypedOperands, operands_in}
use Rattle.ti_types.proofs.Summaries.{called_is, refusal_is}
use Rattle.ti_types.proofs.Walked.{ranges_told}
use Rattle.ti_types.proofs.NodeSummaries.{index_is, other_is, behind_is, behind_refusal_is, rect_is, rect_refusal_is}

-- ---- what counts at a node

-- an expression has a position
pub count_args : (xs : List Expr) → length xs
    ≡ length (places_of (numbered_exps (map expression_of xs)))
count_args [] = refl
count_args (x ∷ rest) = ap suc (count_args rest)

-- an expression behind its parts, with what is misplaced in it and what else is wrong with it
node : (p : ProgramView) (s : ScopeContents) (e : NumberedExp) (before : List NumberedExp) (placed rule : List Refusal)
    (inner places own found : Option Refusal) → parts e ≡ before ++ e ∷ [] → refusals_at p s e ≡ placed ++ rule
    → inner ≡ earliest (flat_map (refusals_at p s) before) → places ≡ earliest placed → own ≡ earliest rule → found ≡ earlier_of inner (earlier_of places own) → found ≡ earliest (exp_refusals p s e)
node p s e before placed rule inner places own found is_parts is_at is_inner is_places is_own is_found =
    is_found ∙ ap (λ a. earlier_of a (earlier_of places own)) is_inner ∙ ap (λ a. earlier_of (earliest (flat_map (refusals_at p s) before)) (earlier_of a own)) is_places
    ∙ ap (λ a. earlier_of (earliest (flat_map (refusals_at p s) before)) (earlier_of (earliest placed) a)) is_own
    ∙ sym (ap (earlier_of (earliest (flat_map (refusals_at p s) before))) (ap earliest is_at ∙ first_append placed rule))
    ∙ sym (first_node (refusals_at p s) before e) ∙ sym (ap (λ l. earliest (flat_map (refusals_at p s) l)) is_parts)

-- ---- calls

-- what is known of arguments
known_call : (p : ProgramView) (s : ScopeContents) (xs : NumberedExps) (m : Option NumberedMethod)
    (a : OperandsTyping) (count : ℕ)
    (k : ExprTyping) → AreTypedOperands p s xs (parameter_types m) a → count ≡ length (places_of xs)
    → k
    ≡ summary_call m count (option_map summary_of a.types)
    → k ≡ called m (operands p s xs)
known_call p s xs m a count k are is_count is =
    is ∙ ap (summary_call m count) are.2 ∙ called_is (places_of xs) m (operands p s xs) count is_count (count_places p s xs)

wrong_call : (p : ProgramView) (s : ScopeContents) (at : Place) (xs : NumberedExps)
    (m : Option NumberedMethod) (a : OperandsTyping)
    (count : ℕ) (own : Option Refusal) → AreTypedOperands p s xs (parameter_types m) a → count
    ≡ length (places_of xs)
    → own ≡ summary_call_refusal at (places_of xs) m None count (option_map summary_of a.types) → own ≡ earliest (judged (operands p s xs) (λ ts. call_refusals at (places_of xs) m ts))
wrong_call p s at xs m a count own are is_count is =
    is ∙ ap (summary_call_refusal at (places_of xs) m None count) are.2 ∙ refusal_is at (places_of xs) m (operands p s xs) count is_count (count_places p s xs)

-- a call, of either form
pub call_form : (p : ProgramView) (s : ScopeContents) (e : NumberedExp) (at : Place) (number : ℕ)
    (xs : NumberedExps)
    (m : Option NumberedMethod) (a : OperandsTyping) (count : ℕ) (own j : TypedExpr) → parts e
    ≡ parts_of_all xs ++ e ∷ []
    → refusals_at p s e ≡ all_misplaced p s xs
    ++ judged (operands p s xs)
    (λ ts. call_refusals at (places_of xs) (slice_get p.methods number) ts)
    → type_result p s e ≡ called (slice_get p.methods number) (operands p s xs)
    → m ≡ slice_get p.methods number → AreTypedOperands p s xs (parameter_types m) a
    → count ≡ length (places_of xs) → typed_of own ≡ summary_call m count (option_map summary_of a.types) → own.first ≡ summary_call_refusal at (places_of xs) m None count (option_map summary_of a.types)
    → typed_of j ≡ typed_of own → j.first ≡ earlier_of a.inner (earlier_of a.misplaced own.first)
    → IsTypedExpr p s e j
call_form p s e at number xs m a count own j is_parts is_at is_type is_m are is_count is_known
    is_own is_typed is_first = (
      is_typed ∙ known_call p s xs m a count (typed_of own) are is_count is_known
          ∙ ap (λ o. called o (operands p s xs)) is_m ∙ sym is_type,
      node p s e (parts_of_all xs) (all_misplaced p s xs)
          (judged (operands p s xs)
          (λ ts. call_refusals at (places_of xs) (slice_get p.methods number) ts)) a.inner
          a.misplaced own.first
          j.first is_parts is_at are.0 are.1
          (wrong_call p s at xs m a count own.first are is_count is_own
          ∙ ap (λ o. earliest
          (judged (operands p s xs) (λ ts. call_refusals at (places_of xs) o ts))) is_m) is_first,
    )

-- ---- points and ranges

point_is : (places : List Place) (o : Option (List ValueType)) (count : ℕ) → ((ts : List ValueType) → o ≡ Some ts → count ≡ length ts)
    → option_and_then (λ (t : OperandSummary). where_true t.ints (Pt count))
    (option_map (summary places []) o) ≡ option_and_then point_literal o
point_is places None count same = refl
point_is places (Some ts) count same = ap (λ n. where_true (all_ints ts) (Pt n)) (same ts refl)

point_refusal_is : (at : Place) (places : List Place) (o : Option (List ValueType))
    → judged (option_map (summary places []) o)
    (λ (t : OperandSummary). operand_refusal at t.ints false)
    ≡ judged o (λ ts. operand_refusal at (all_ints ts) false)
point_refusal_is at places None = refl
point_refusal_is at places (Some ts) = refl

plain_same : (a c : Option ValueType) → a ≡ c → plain a ≡ plain c
plain_same a c e = ap (λ o. let k : ExprTyping = record { type = o; is_call = false } in k) e

pub point_form : (p : ProgramView) (s : ScopeContents) (at : Place) (xs : NumberedExps)
    (a : OperandsTyping) (count : ℕ) (own j : TypedExpr) → AreTypedOperands p s xs [] a → count
    ≡ length (places_of xs)
    → typed_of own ≡ plain (option_and_then (λ (t : OperandSummary). where_true t.ints (Pt count))
    (option_map summary_of a.types)) → own.first
    ≡ earliest
    (judged (option_map summary_of a.types)
    (λ (t : OperandSummary). operand_refusal at t.ints false))
    → typed_of j ≡ typed_of own → j.first ≡ earlier_of a.inner (earlier_of a.misplaced own.first) → IsTypedExpr p s (x.Point at xs) j
point_form p s at xs a count own j are is_count is_known is_own is_typed is_first = (
  is_typed ∙ is_known
      ∙ ap (λ o. plain (option_and_then (λ (t : OperandSummary). where_true t.ints (Pt count)) o))
      are.2
      ∙ plain_same (option_and_then (λ (t : OperandSummary). where_true t.ints (Pt count))
      (option_map (summary (places_of xs) []) (operands p s xs))) (option_and_then point_literal (operands p s xs))
      (point_is (places_of xs) (operands p s xs) count (λ ts e. is_count ∙ count_places p s xs ts e)),
  node p s (x.Point at xs) (parts_of_all xs) (all_misplaced p s xs) (judged (operands p s xs) (λ ts. operand_refusal at (all_ints ts) false)) a.inner a.misplaced own.first j.first refl refl are.0 are.1
      (is_own ∙ ap
      (λ o. earliest (judged o (λ (t : OperandSummary). operand_refusal at t.ints false))) are.2
      ∙ ap earliest (point_refusal_is at (places_of xs) (operands p s xs))) is_first,
)

pub rect_form : (p : ProgramView) (s : ScopeContents) (at : Place) (rs : NumberedRanges)
    (a : OperandsTyping) (count : ℕ) (own j : TypedExpr)
    → AreTypedOperands p s (operands_in rs) [] a → count ≡ range_count rs
    → typed_of own
    ≡ plain (option_and_then (summary_rect_type count) (option_map summary_of a.types)) → own.first
    ≡ earliest
    (judged (option_map summary_of a.types) (λ (told : OperandSummary). operand_refusal at
    (is_some (summary_rect_type count told)) (summary_fits_other_dims count told)))
    → typed_of j ≡ typed_of own → j.first ≡ earlier_of a.inner (earlier_of a.misplaced own.first)
    → IsTypedExpr p s (x.Rect at rs) j
rect_form p s at rs a count own j are is_count is_known is_own is_typed is_first =
    let n = range_count rs in
    let places = places_of (operands_in rs) in
    let told = ranges_told p s rs a are in
    let types = option_map (summary places []) (bounds p s rs) in (
      is_typed ∙ is_known ∙ ap (λ o. plain (option_and_then (summary_rect_type count) o)) told.2
          ∙ ap (λ n. plain (option_and_then (summary_rect_type n) types)) is_count
          ∙ plain_same (option_and_then (summary_rect_type n) types)
          (option_and_then (rect_literal n) (bounds p s rs))
          (rect_is places [] n (bounds p s rs)),
      node p s (x.Rect at rs) (parts_of_ranges rs) (bounds_misplaced p s rs)
          (judged (bounds p s rs) (λ ts. operand_refusal at (is_some (rect_literal n ts))
          (is_some (rect_literal n (map erase_dims ts)))))
          a.inner a.misplaced own.first j.first refl refl told.0 told.1
          (is_own ∙ ap
          (λ o. earliest
          (judged o (λ (told : OperandSummary). operand_refusal at
          (is_some (summary_rect_type count told)) (summary_fits_other_dims count told)))) told.2
          ∙ ap (λ n. earliest
          (judged types (λ (told : OperandSummary). operand_refusal at
          (is_some (summary_rect_type n told)) (summary_fits_other_dims n told)))) is_count
          ∙ ap earliest (rect_refusal_is at places [] n (bounds p s rs))) is_first,
    )

-- ---- members and indices

-- what is in a receiver and in arguments
inner_both : (p : ProgramView) (s : ScopeContents) (e : NumberedExp) (xs : NumberedExps)
    (us : List ValueType) (t : TypedExpr) (a : OperandsTyping) → IsTypedExpr p s e t
    → AreTypedOperands p s xs us a
    → earlier_of t.first a.inner ≡ earliest (flat_map (refusals_at p s) (parts e ++ parts_of_all xs))
inner_both p s e xs us t a is_t are = ap (λ f. earlier_of f a.inner) is_t.1 ∙ ap (earlier_of (earliest (exp_refusals p s e))) are.0 ∙ sym (first_append_each (refusals_at p s) (parts e) (parts_of_all xs))

placed_both : (p : ProgramView) (s : ScopeContents) (e : NumberedExp) (xs : NumberedExps) (us : List ValueType) (place : Place)
    (t : TypedExpr) (a : OperandsTyping) → IsTypedExpr p s e t → place ≡ place_of_numbered e
    → AreTypedOperands p s xs us a
    → earlier_of (earliest (misplaced_at place (typed_of t))) a.misplaced ≡ earliest (misplaced p s e ++ all_misplaced p s xs)
placed_both p s e xs us place t a is_t is_place are =
    ap (λ k. earlier_of (earliest (misplaced_at place k)) a.misplaced) is_t.0
    ∙ ap (λ q. earlier_of (earliest (misplaced_at q (type_result p s e))) a.misplaced) is_place ∙ ap (earlier_of (earliest (misplaced p s e))) are.1
    ∙ sym (first_append (misplaced p s e) (all_misplaced p s xs))

pub member_form : (p : ProgramView) (s : ScopeContents) (at : Place) (e : NumberedExp) (name : ℕ) (xs : NumberedExps) (place : Place)
    (o : Option ValueType) (m : Option NumberedMethod) (t : TypedExpr) (a : OperandsTyping) (count : ℕ)
    (own j : TypedExpr) → IsTypedExpr p s e t
    → place ≡ place_of_numbered e → o ≡ operand (type_result p s e)
    → m ≡ member_method p o name → AreTypedOperands p s xs (parameter_types m) a → count
    ≡ length (places_of xs)
    → typed_of own ≡ summary_member p o name m count (option_map summary_of a.types)
    → own.first ≡ summary_member_refusal p at (places_of xs) o name m count
    (option_map summary_of a.types)
    → typed_of j ≡ typed_of own → j.first ≡ earlier_of (earlier_of t.first a.inner)
    (earlier_of (earlier_of (earliest (misplaced_at place (typed_of t))) a.misplaced) own.first) → IsTypedExpr p s (x.Member at e name xs) j
member_form p s at e name xs place o m t a count own j is_t is_place is_o is_m are is_count is_known
    is_own is_typed is_first = (
      is_typed ∙ is_known ∙ ap (summary_member p o name m count) are.2
          ∙ ap (λ n. summary_member p o name n count
          (option_map (summary (places_of xs) (parameter_types n)) (operands p s xs))) is_m
          ∙ behind_is p (places_of xs) o name (operands p s xs) count is_count (count_places p s xs)
          ∙ ap (λ q. member_typing p q name (operands p s xs)) is_o,
      node p s (x.Member at e name xs) (parts e ++ parts_of_all xs) (misplaced p s e
          ++ all_misplaced p s xs)
          (both_judged (operand (type_result p s e)) (operands p s xs)
          (λ u ts. member_refusals p at (places_of xs) name u ts))
          (earlier_of t.first a.inner)
          (earlier_of (earliest (misplaced_at place (typed_of t))) a.misplaced) own.first j.first
          refl refl
          (inner_both p s e xs (parameter_types m) t a is_t are)
          (placed_both p s e xs (parameter_types m) place t a is_t is_place are)
          (is_own ∙ ap (summary_member_refusal p at (places_of xs) o name m count) are.2
          ∙ ap (λ n. summary_member_refusal p at (places_of xs) o name n count
          (option_map (summary (places_of xs) (parameter_types n)) (operands p s xs))) is_m
          ∙ behind_refusal_is p at (places_of xs) o name (operands p s xs) count is_count
          (count_places p s xs)
          ∙ ap (λ q. earliest
          (both_judged q (operands p s xs) (λ u ts. member_refusals p at (places_of xs) name u ts)))
          is_o) is_first,
    )

index_both : (places : List Place) (t : Option ValueType) (o : Option (List ValueType)) (count : ℕ)
    → ((ts : List ValueType) → o ≡ Some ts → count ≡ length ts) → and_then_both t (option_map (summary places []) o) (summary_index_type count)
    ≡ and_then_both t o index_type
index_both places None o count same = refl
index_both places (Some t) None count same = refl
index_both places (Some t) (Some ts) count same = ap (λ n. summary_index_type n t (summary places [] ts)) (same ts refl) ∙ index_is places [] t ts

index_refused : (at : Place) (places : List Place) (t : Option ValueType) (o : Option (List ValueType)) (count : ℕ) → ((ts : List ValueType) → o ≡ Some ts → count ≡ length ts)
    → both_judged t (option_map (summary places []) o) (λ u summary. operand_refusal at (is_some (summary_index_type count u summary)) (summary_other_indices count u summary))
    ≡ both_judged t o (λ u ts. operand_refusal at (is_some (index_type u ts)) (other_indices u ts))
index_refused at places None o count same = refl
index_refused at places (Some t) None count same = refl
index_refused at places (Some t) (Some ts) count same =
    ap (λ n. operand_refusal at (is_some (summary_index_type n t (summary places [] ts))) (summary_other_indices n t (summary places [] ts))) (same ts refl)
    ∙ ap (λ q. operand_refusal at (is_some q) (summary_other_indices (length ts) t (summary places [] ts))) (index_is places [] t ts) ∙ ap (operand_refusal at (is_some (index_type t ts))) (other_is places [] t ts)

pub index_form : (p : ProgramView) (s : ScopeContents) (at : Place) (e : NumberedExp)
    (xs : NumberedExps) (place : Place)
    (o : Option ValueType) (t : TypedExpr) (a : OperandsTyping) (count : ℕ) (own j : TypedExpr)
    → IsTypedExpr p s e t → place ≡ place_of_numbered e
    → o ≡ operand (type_result p s e) → AreTypedOperands p s xs [] a
    → count ≡ length (places_of xs) → typed_of own
    ≡ plain (and_then_both o (option_map summary_of a.types) (summary_index_type count))
    → own.first
    ≡ earliest (both_judged o (option_map summary_of a.types)
    (λ u told. operand_refusal at (is_some (summary_index_type count u told))
    (summary_other_indices count u told)))
    → typed_of j ≡ typed_of own → j.first ≡ earlier_of (earlier_of t.first a.inner) (earlier_of (earlier_of (earliest (misplaced_at place (typed_of t))) a.misplaced) own.first) → IsTypedExpr p s (x.Index at e xs) j
index_form p s at e xs place o t a count own j is_t is_place is_o are is_count is_known is_own
    is_typed is_first =
    let same = λ (ts : List ValueType) (is : operands p s xs ≡ Some ts). is_count ∙ count_places p s xs ts is in (
      is_typed ∙ is_known ∙ ap (λ q. plain (and_then_both o q (summary_index_type count))) are.2
          ∙ plain_same (and_then_both o (option_map (summary (places_of xs) []) (operands p s xs))
          (summary_index_type count))
          (and_then_both o (operands p s xs) index_type)
          (index_both (places_of xs) o (operands p s xs) count same)
          ∙ ap (λ q. plain (and_then_both q (operands p s xs) index_type)) is_o,
      node p s (x.Index at e xs) (parts e ++ parts_of_all xs) (misplaced p s e ++ all_misplaced p s xs)
          (both_judged (operand (type_result p s e)) (operands p s xs) (λ u ts. operand_refusal at (is_some (index_type u ts)) (other_indices u ts)))
          (earlier_of t.first a.inner) (earlier_of (earliest (misplaced_at place (typed_of t))) a.misplaced) own.first j.first refl refl
          (inner_both p s e xs [] t a is_t are) (placed_both p s e xs [] place t a is_t is_place are)
          (is_own ∙ ap
          (λ q. earliest
          (both_judged o q (λ u told. operand_refusal at (is_some (summary_index_type count u told))
          (summary_other_indices count u told)))) are.2
          ∙ ap earliest (index_refused at (places_of xs) o (operands p s xs) count same)
          ∙ ap (λ q. earliest
          (both_judged q (operands p s xs) (λ u ts. operand_refusal at (is_some (index_type u ts))
          (other_indices u ts)))) is_o) is_first,
    )

-- ---- operators

pub binary_form : (p : ProgramView) (s : ScopeContents) (at : Place) (op : BinaryOperator) (e f : NumberedExp) (place other : Place)
    (t u j : TypedExpr) → IsTypedExpr p s e t → IsTypedExpr p s f u → place ≡ place_of_numbered e → other ≡ place_of_numbered f
    → typed_of j ≡ plain (and_then_both (operand (typed_of t)) (operand (typed_of u)) (binary_type op))
    → j.first ≡ earlier_of (earlier_of t.first u.first) (earliest ((misplaced_at place (typed_of t) ++ misplaced_at other (typed_of u))
    ++ both_judged (operand (typed_of t)) (operand (typed_of u))
    (λ v w. operand_refusal at (is_some (binary_type op v w)) (is_some (binary_type op (erase_dims v) (erase_dims w))))))
    → IsTypedExpr p s (x.Binary at op e f) j
binary_form p s at op e f place other t u j is_t is_u is_place is_other is_known is_first =
    let own = λ (q r : Place) (k l : ExprTyping). (misplaced_at q k ++ misplaced_at r l)
    ++ both_judged (operand k) (operand l) (λ v w. operand_refusal at (is_some (binary_type op v w))
    (is_some (binary_type op (erase_dims v) (erase_dims w)))) in (
      is_known ∙ ap (λ k. plain (and_then_both (operand k) (operand (typed_of u)) (binary_type op))) is_t.0 ∙ ap (λ k. plain (and_then_both (operand (type_result p s e)) (operand k) (binary_type op))) is_u.0,
      is_first ∙ ap (λ a. earlier_of (earlier_of a u.first) (earliest (own place other (typed_of t) (typed_of u)))) is_t.1
          ∙ ap (λ a. earlier_of (earlier_of (earliest (exp_refusals p s e)) a) (earliest (own place other (typed_of t) (typed_of u)))) is_u.1
          ∙ sym (ap (λ a. earlier_of a (earliest (own place other (typed_of t) (typed_of u)))) (first_append_each (refusals_at p s) (parts e) (parts f)))
          ∙ ap (λ k. earlier_of (earliest (flat_map (refusals_at p s) (parts e ++ parts f))) (earliest (own place other k (typed_of u)))) is_t.0
          ∙ ap (λ k. earlier_of (earliest (flat_map (refusals_at p s) (parts e ++ parts f))) (earliest (own place other (type_result p s e) k))) is_u.0
          ∙ ap (λ q. earlier_of (earliest (flat_map (refusals_at p s) (parts e ++ parts f))) (earliest (own q other (type_result p s e) (type_result p s f)))) is_place
          ∙ ap (λ q. earlier_of (earliest (flat_map (refusals_at p s) (parts e ++ parts f))) (earliest (own (place_of_numbered e) q (type_result p s e) (type_result p s f)))) is_other
          ∙ sym (first_node (refusals_at p s) (parts e ++ parts f) (x.Binary at op e f)),
    )
