-- An expression whose names are known, and in which no rule of types is broken, has a type.
use Rattle.std.proofs.Common.{◌≡◌, ℕ, ◌+◌, false, List, [], ◌∷◌, ◌++◌, length, map, flat_map, Option, Some, None, is_some, option_map, option_and_then, slice_get, refl, ap, arith}
use Rattle.ti_base.specs.declared.place.Place.{Place}
use Rattle.ti_lang.specs.Program.Types.{ValueType, Class, Pt}
use Rattle.ti_lang.specs.Program.Expressions.{NumberedExp, NumberedExps, NumberedRange, NumberedRanges, place_of_numbered}
use Rattle.ti_lang.specs.Program.Expressions as x
use Rattle.ti_lang.specs.Program.Classes.{NumberedMethod, ProgramView}
use Rattle.ti_lang.specs.Program.Scope.{ScopeContents}
use Rattle.ti_lang.specs.Typing.Kinds.{where_true, as_global}
use Rattle.ti_lang.specs.Typing.Fits.{casts}
use Rattle.ti_lang.specs.Typing.Operators.{unary_type, binary_type}
use Rattle.ti_lang.specs.Typing.Declared.{field_type}
use Rattle.ti_lang.specs.Typing.Expressions.{operand, append_both, one, all_ints, point_literal, rect_literal, index_type, select_type, call_type, called, member_given, member_typing, type_result, operands, bound_types, bounds, range_count, expr_type, operand_type}
use Rattle.ti_rules.specs.declared.refusal.Refusal.{Refusal}
use Rattle.ti_rules.specs.Broken.Refused.{judged, both_judged, operand_refusal}
use Rattle.ti_rules.specs.Broken.Words.{type_word_refusals}
use Rattle.ti_rules.specs.Broken.Calls.{call_refusals, member_refusals}
use Rattle.ti_lang.specs.Typing.Alike.{erase_dims}
use Rattle.ti_rules.specs.Parts.{parts, parts_of_all, parts_of_range, parts_of_ranges}
use Rattle.ti_rules.specs.Broken.Misplaced.{misplaced, all_misplaced, bound_misplaced, bounds_misplaced}
use Rattle.ti_rules.specs.Broken.Expressions.{places_of, other_indices, refusals_at, exp_refusals}
use Rattle.ti_rules.specs.Known.{IsThere, IsKnown, AreKnown, IsKnownRange, AreKnownRanges}
use Rattle.ti_rules.proofs.Sound.Refused.{nil_left, nil_right, each_left, each_right, node_alone, not_mistaken, there_is, where_there, judged_there, both_there, operand_there, one_there, joined_there}
use Rattle.ti_rules.proofs.Sound.Calls.{call_there, member_there}

-- ---- how many arguments there are

joined_count : (o : Option ValueType) (q : Option (List ValueType)) (ts : List ValueType) (n : ℕ) → append_both (one o) q ≡ Some ts
    → ((us : List ValueType) → q ≡ Some us → n ≡ length us) → n + 1 ≡ length ts
joined_count None q ts n e count = cc
joined_count (Some t) None ts n e count = cc
joined_count (Some t) (Some us) ts n e count =
    let same : t ∷ us ≡ ts = cc e in
    omega (arith, count us refl, ap length same)

pub count_places : (p : ProgramView) (s : ScopeContents) (xs : NumberedExps) (ts : List ValueType) → operands p s xs ≡ Some ts → length (places_of xs) ≡ length ts
count_places p s x.NoExp ts e = let same : [] ≡ ts = cc e in ap length same
count_places p s (x.MoreExp a rest) ts e =
    let count = joined_count (operand (type_result p s a)) (operands p s rest) ts (length (places_of rest)) e (count_places p s rest) in
    omega (arith, count)

-- ---- each form

has_operand : (p : ProgramView) (s : ScopeContents) (a : NumberedExp) → IsThere (expr_type p s a) → misplaced p s a ≡ [] → IsThere (operand_type p s a)
has_operand p s a there e = operand_there (type_result p s a) (place_of_numbered a) there e

map_there : {A B : Type 0} (f : A → B) (o : Option A) → IsThere o → IsThere (option_map f o)
map_there f None there = cc there.1
map_there f (Some a) there = (f a, refl)

called_there : (m : Option NumberedMethod) (o : Option (List ValueType)) (rule : List ValueType → List Refusal) → IsThere o → judged o rule
    ≡ [] → ((ts : List ValueType) → o ≡ Some ts → rule ts ≡ [] → IsThere (call_type m ts))
    → IsThere (called m o).type
called_there m None rule there e gives = cc there.1
called_there m (Some ts) rule there e gives = gives ts refl e

member_of : (p : ProgramView) (name : ℕ) (o : Option ValueType) (q : Option (List ValueType)) (rule : ValueType → List ValueType → List Refusal) → IsThere o → IsThere q → both_judged o q rule ≡ []
    → ((t : ValueType) (ts : List ValueType) → q ≡ Some ts → rule t ts ≡ [] → IsThere (member_given p t name ts).type) → IsThere (member_typing p o name q).type
member_of p name None q rule there other e gives = cc there.1
member_of p name (Some t) None rule there other e gives = cc other.1
member_of p name (Some t) (Some ts) rule there other e gives = gives t ts refl e

call_typed : (p : ProgramView) (s : ScopeContents) (at : Place) (method : ℕ) (args : NumberedExps) → IsThere (slice_get p.methods method) → IsThere (operands p s args)
    → judged (operands p s args) (λ ts. call_refusals at (places_of args) (slice_get p.methods method) ts) ≡ [] → IsThere (called (slice_get p.methods method) (operands p s args)).type
call_typed p s at method args is_method there e =
    called_there (slice_get p.methods method) (operands p s args) (λ ts. call_refusals at (places_of args) (slice_get p.methods method) ts) there e
    (λ ts is own. call_there at (places_of args) (slice_get p.methods method) ts is_method (count_places p s args ts is) own)

-- ---- expressions

mutual
  pub has_type : (p : ProgramView) (s : ScopeContents) (e : NumberedExp) → IsKnown p s e → exp_refusals p s e ≡ [] → IsThere (expr_type p s e)
  has_type p s (x.Int at n) names e = (_, refl)
  has_type p s (x.Long at n) names e = (_, refl)
  has_type p s (x.Truth at b) names e = (_, refl)
  has_type p s (x.Null at) names e = (_, refl)
  has_type p s (x.This at) names e = map_there (λ c. Class c false) s.this_class names
  has_type p s (x.Variable at v) names e = names
  has_type p s (x.OwnField at field) names e = map_there as_global (option_and_then (λ c. field_type p c field) s.this_class) names
  has_type p s (x.Call at method args) names e =
      let inner = each_left (refusals_at p s) (parts_of_all args) (x.Call at method args ∷ []) e in
      let own = node_alone (refusals_at p s) (parts_of_all args) (x.Call at method args) e in
      let rule = judged (operands p s args) (λ ts. call_refusals at (places_of args) (slice_get p.methods method) ts) in
      call_typed p s at method args names.0 (have_types p s args names.1 inner (nil_left (all_misplaced p s args) rule own)) (nil_right (all_misplaced p s args) rule own)
  has_type p s (x.OwnCall at method args) names e =
      let inner = each_left (refusals_at p s) (parts_of_all args) (x.OwnCall at method args ∷ []) e in
      let own = node_alone (refusals_at p s) (parts_of_all args) (x.OwnCall at method args) e in
      let rule = judged (operands p s args) (λ ts. call_refusals at (places_of args) (slice_get p.methods method) ts) in
      call_typed p s at method args names.0 (have_types p s args names.1 inner (nil_left (all_misplaced p s args) rule own)) (nil_right (all_misplaced p s args) rule own)
  has_type p s (x.ThisProc at) names e = (_, refl)
  has_type p s (x.NumProcs at) names e = (_, refl)
  has_type p s (x.Point at xs) names e =
      let inner = each_left (refusals_at p s) (parts_of_all xs) (x.Point at xs ∷ []) e in
      let own = node_alone (refusals_at p s) (parts_of_all xs) (x.Point at xs) e in
      let rule = λ (ts : List ValueType). operand_refusal at (all_ints ts) false in
      judged_there (operands p s xs) rule point_literal (have_types p s xs names inner
      (nil_left (all_misplaced p s xs) (judged (operands p s xs) rule) own))
      (nil_right (all_misplaced p s xs) (judged (operands p s xs) rule) own)
      (λ ts fine. where_there (all_ints ts) (Pt (length ts)) (not_mistaken at (all_ints ts) false fine))
  has_type p s (x.Rect at ranges) names e =
      let inner = each_left (refusals_at p s) (parts_of_ranges ranges) (x.Rect at ranges ∷ []) e in
      let own = node_alone (refusals_at p s) (parts_of_ranges ranges) (x.Rect at ranges) e in
      let rule = λ (ts : List ValueType). operand_refusal at (is_some (rect_literal (range_count ranges) ts)) (is_some (rect_literal (range_count ranges) (map erase_dims ts))) in
      judged_there (bounds p s ranges) rule (rect_literal (range_count ranges))
      (have_bounds p s ranges names inner (nil_left (bounds_misplaced p s ranges) (judged (bounds p s ranges) rule) own))
      (nil_right (bounds_misplaced p s ranges) (judged (bounds p s ranges) rule) own)
      (λ ts fine. there_is (rect_literal (range_count ranges) ts) (not_mistaken at (is_some (rect_literal (range_count ranges) ts))
      (is_some (rect_literal (range_count ranges) (map erase_dims ts))) fine))
  has_type p s (x.Unary at op a) names e =
      let inner = each_left (refusals_at p s) (parts a) (x.Unary at op a ∷ []) e in
      let own = node_alone (refusals_at p s) (parts a) (x.Unary at op a) e in
      let rule = λ (t : ValueType). operand_refusal at (is_some (unary_type op t)) false in
      judged_there (operand_type p s a) rule (unary_type op) (has_operand p s a (has_type p s a names inner)
      (nil_left (misplaced p s a) (judged (operand_type p s a) rule) own))
      (nil_right (misplaced p s a) (judged (operand_type p s a) rule) own)
      (λ t fine. there_is (unary_type op t) (not_mistaken at (is_some (unary_type op t)) false fine))
  has_type p s (x.Binary at op a b) names e =
      let inner = each_left (refusals_at p s) (parts a ++ parts b) (x.Binary at op a b ∷ []) e in
      let own = node_alone (refusals_at p s) (parts a ++ parts b) (x.Binary at op a b) e in
      let rule = λ (t : ValueType) (u : ValueType). operand_refusal at (is_some (binary_type op t u)) (is_some (binary_type op (erase_dims t) (erase_dims u))) in
      let places = nil_left (misplaced p s a ++ misplaced p s b) (both_judged (operand_type p s a) (operand_type p s b) rule) own in
      both_there (operand_type p s a) (operand_type p s b) rule (binary_type op)
      (has_operand p s a (has_type p s a names.0 (each_left (refusals_at p s) (parts a) (parts b) inner)) (nil_left (misplaced p s a) (misplaced p s b) places))
      (has_operand p s b (has_type p s b names.1 (each_right (refusals_at p s) (parts a) (parts b) inner)) (nil_right (misplaced p s a) (misplaced p s b) places))
      (nil_right (misplaced p s a ++ misplaced p s b) (both_judged (operand_type p s a) (operand_type p s b) rule) own)
      (λ t u fine. there_is (binary_type op t u) (not_mistaken at (is_some (binary_type op t u)) (is_some (binary_type op (erase_dims t) (erase_dims u))) fine))
  has_type p s (x.Cast at to a) names e =
      let inner = each_left (refusals_at p s) (parts a) (x.Cast at to a ∷ []) e in
      let own = node_alone (refusals_at p s) (parts a) (x.Cast at to a) e in
      let rule = λ (t : ValueType). operand_refusal at (casts to.type t) (casts (erase_dims to.type) (erase_dims t)) in
      let places = nil_left (type_word_refusals false to ++ misplaced p s a) (judged (operand_type p s a) rule) own in
      judged_there (operand_type p s a) rule (λ t. where_true (casts to.type t) to.type)
      (has_operand p s a (has_type p s a names inner) (nil_right (type_word_refusals false to) (misplaced p s a) places))
      (nil_right (type_word_refusals false to ++ misplaced p s a) (judged (operand_type p s a) rule) own)
      (λ t fine. where_there (casts to.type t) to.type (not_mistaken at (casts to.type t) (casts (erase_dims to.type) (erase_dims t)) fine))
  has_type p s (x.Select at a name) names e =
      let inner = each_left (refusals_at p s) (parts a) (x.Select at a name ∷ []) e in
      let own = node_alone (refusals_at p s) (parts a) (x.Select at a name) e in
      let rule = λ (t : ValueType). operand_refusal at (is_some (select_type p t name)) false in
      judged_there (operand_type p s a) rule (λ t. select_type p t name)
      (has_operand p s a (has_type p s a names inner) (nil_left (misplaced p s a) (judged (operand_type p s a) rule) own))
      (nil_right (misplaced p s a) (judged (operand_type p s a) rule) own)
      (λ t fine. there_is (select_type p t name) (not_mistaken at (is_some (select_type p t name)) false fine))
  has_type p s (x.Member at a name args) names e =
      let inner = each_left (refusals_at p s) (parts a ++ parts_of_all args) (x.Member at a name args ∷ []) e in
      let own = node_alone (refusals_at p s) (parts a ++ parts_of_all args) (x.Member at a name args) e in
      let rule = λ (t : ValueType) (ts : List ValueType). member_refusals p at (places_of args) name t ts in
      let places = nil_left (misplaced p s a ++ all_misplaced p s args) (both_judged (operand_type p s a) (operands p s args) rule) own in
      member_of p name (operand_type p s a) (operands p s args) rule
      (has_operand p s a (has_type p s a names.0 (each_left (refusals_at p s) (parts a) (parts_of_all args) inner)) (nil_left (misplaced p s a) (all_misplaced p s args) places))
      (have_types p s args names.1 (each_right (refusals_at p s) (parts a) (parts_of_all args) inner) (nil_right (misplaced p s a) (all_misplaced p s args) places))
      (nil_right (misplaced p s a ++ all_misplaced p s args) (both_judged (operand_type p s a) (operands p s args) rule) own)
      (λ t ts is fine. member_there p at (places_of args) name t ts (count_places p s args ts is) fine)
  has_type p s (x.Index at a xs) names e =
      let inner = each_left (refusals_at p s) (parts a ++ parts_of_all xs) (x.Index at a xs ∷ []) e in
      let own = node_alone (refusals_at p s) (parts a ++ parts_of_all xs) (x.Index at a xs) e in
      let rule = λ (t : ValueType) (ts : List ValueType). operand_refusal at (is_some (index_type t ts)) (other_indices t ts) in
      let places = nil_left (misplaced p s a ++ all_misplaced p s xs) (both_judged (operand_type p s a) (operands p s xs) rule) own in
      both_there (operand_type p s a) (operands p s xs) rule index_type
      (has_operand p s a (has_type p s a names.0 (each_left (refusals_at p s) (parts a) (parts_of_all xs) inner)) (nil_left (misplaced p s a) (all_misplaced p s xs) places))
      (have_types p s xs names.1 (each_right (refusals_at p s) (parts a) (parts_of_all xs) inner) (nil_right (misplaced p s a) (all_misplaced p s xs) places))
      (nil_right (misplaced p s a ++ all_misplaced p s xs) (both_judged (operand_type p s a) (operands p s xs) rule) own)
      (λ t ts fine. there_is (index_type t ts) (not_mistaken at (is_some (index_type t ts)) (other_indices t ts) fine))

  have_types : (p : ProgramView) (s : ScopeContents) (xs : NumberedExps) → AreKnown p s xs
      → flat_map (refusals_at p s) (parts_of_all xs) ≡ [] → all_misplaced p s xs ≡ [] → IsThere (operands p s xs)
  have_types p s x.NoExp names e places = ([], refl)
  have_types p s (x.MoreExp a rest) names e places =
      joined_there (one (operand_type p s a)) (operands p s rest)
      (one_there (operand_type p s a) (has_operand p s a (has_type p s a names.0
      (each_left (refusals_at p s) (parts a) (parts_of_all rest) e))
      (nil_left (misplaced p s a) (all_misplaced p s rest) places)))
      (have_types p s rest names.1 (each_right (refusals_at p s) (parts a) (parts_of_all rest) e) (nil_right (misplaced p s a) (all_misplaced p s rest) places))

  has_bound : (p : ProgramView) (s : ScopeContents) (r : NumberedRange) → IsKnownRange p s r
      → flat_map (refusals_at p s) (parts_of_range r) ≡ [] → bound_misplaced p s r ≡ [] → IsThere (bound_types p s r)
  has_bound p s (x.Plain low high) names e places =
      joined_there (one (operand_type p s low)) (one (operand_type p s high))
      (one_there (operand_type p s low) (has_operand p s low (has_type p s low names.0
      (each_left (refusals_at p s) (parts low) (parts high) e)) (nil_left (misplaced p s low) (misplaced p s high) places)))
      (one_there (operand_type p s high) (has_operand p s high (has_type p s high names.1
      (each_right (refusals_at p s) (parts low) (parts high) e)) (nil_right (misplaced p s low) (misplaced p s high) places)))
  has_bound p s (x.Stepped low high step) names e places =
      let first = each_left (refusals_at p s) (parts low ++ parts high) (parts step) e in
      let first_places = nil_left (misplaced p s low ++ misplaced p s high) (misplaced p s step) places in
      joined_there (append_both (one (operand_type p s low)) (one (operand_type p s high))) (one (operand_type p s step))
      (joined_there (one (operand_type p s low)) (one (operand_type p s high))
      (one_there (operand_type p s low) (has_operand p s low (has_type p s low names.0
      (each_left (refusals_at p s) (parts low) (parts high) first))
      (nil_left (misplaced p s low) (misplaced p s high) first_places)))
      (one_there (operand_type p s high) (has_operand p s high (has_type p s high names.1
      (each_right (refusals_at p s) (parts low) (parts high) first))
      (nil_right (misplaced p s low) (misplaced p s high) first_places))))
      (one_there (operand_type p s step) (has_operand p s step (has_type p s step names.2
      (each_right (refusals_at p s) (parts low ++ parts high) (parts step) e))
      (nil_right (misplaced p s low ++ misplaced p s high) (misplaced p s step) places)))

  have_bounds : (p : ProgramView) (s : ScopeContents) (rs : NumberedRanges) → AreKnownRanges p s rs
      → flat_map (refusals_at p s) (parts_of_ranges rs) ≡ [] → bounds_misplaced p s rs ≡ [] → IsThere (bounds p s rs)
  have_bounds p s x.NoRange names e places = ([], refl)
  have_bounds p s (x.MoreRange r rest) names e places =
      joined_there (bound_types p s r) (bounds p s rest)
      (has_bound p s r names.0 (each_left (refusals_at p s) (parts_of_range r) (parts_of_ranges rest) e) (nil_left (bound_misplaced p s r) (bounds_misplaced p s rest) places))
      (have_bounds p s rest names.1 (each_right (refusals_at p s) (parts_of_range r) (parts_of_ranges rest) e) (nil_right (bound_misplaced p s r) (bounds_misplaced p s rest) places))
