-- The summary of argument types is proved to determine what the typing rules need of the list.
use Rattle.std.proofs.Common.{◌≡◌, ◌⊎◌, inl, inr, ℕ, suc, ◌+◌, ◌==◌, Bool, true, false, ◌&&◌, if◌then◌else◌, List, [], ◌∷◌, ◌++◌, drop, length, get_or, slice_get, Option, Some, None, is_none, option_map, refl, sym, ap, ◌∙◌, true≢false, arith}
use Rattle.std.specs.List.{list_all}
use Rattle.std.proofs.lemmas.Bool.{cases_order}
use Rattle.std.proofs.lemmas.List.{drop_all}
use Rattle.std.proofs.lemmas.Option.{slice_get-get_or, slice_get_past}
use Rattle.std.proofs.lemmas.Bool.Decides.{Decides-eqb}
use Rattle.ti_base.specs.declared.place.Place.{Place}
use Rattle.ti_lang.specs.Program.Types.{ValueType, Pt, Rc, Null}
use Rattle.ti_lang.specs.Program.Classes.{NumberedParam, NumberedParams, MainArgs, Params, NumberedMethod}
use Rattle.ti_lang.specs.Typing.Kinds.{where_true, is_point_type}
use Rattle.ti_lang.specs.Typing.Fits.{fits}
use Rattle.ti_lang.specs.Typing.Declared.{result_type, types_of}
use Rattle.ti_lang.specs.Typing.Expressions.{ExprTyping, is_int, all_ints, all_points, range_of_points, all_fit, takes, called, and_then_both, append_both, one}
use Rattle.ti_rules.specs.declared.rule.Rule.{Rule}
use Rattle.ti_rules.specs.declared.rule.Rule.TheVariants.{Y1, Y2, Y4, Y5, Q1}
use Rattle.ti_rules.specs.declared.refusal.Refusal.{Refusal}
use Rattle.ti_rules.specs.Refusals.{counts_before}
use Rattle.ti_rules.specs.Mirrors.First.{earlier_of, earliest}
use Rattle.ti_lang.specs.Typing.Alike.{erase_dims, as_local}
use Rattle.ti_rules.specs.Broken.Refused.{refusal_at, judged, misfit}
use Rattle.ti_rules.specs.Broken.Calls.{misfits, first_misfit, params_refusals, call_refusals, instance_refusals}
use Rattle.ti_rules.proofs.Lemmas.{first_append}
use Rattle.ti_types.specs.Mirrors.Arguments.{OperandSummary, head_type, summary, has_dim, range_before, prepend, parameter_refusal, types_in, parameter_types, params_accept, summary_params_refusal, summary_call_refusal, summary_call}
use Rattle.ti_types.proofs.Loops.{drop_next}

-- ---- the parameter of a number

-- there is one, or none from there on
pub at_or_past : {A : Type 0} (d : A) (xs : List A) (i : ℕ) → ((x : A) × (drop i xs ≡ x ∷ drop (i + 1) xs) × (slice_get xs i ≡ Some x))
    ⊎ ((drop i xs ≡ []) × (slice_get xs i ≡ None) × (drop (i + 1) xs ≡ []))
at_or_past d xs i =
    elim (cases_order i (length xs)) [
      | inl same ↦ inr (drop_all i xs (omega (arith, same)), slice_get_past xs i (omega (arith, same)), drop_all (i + 1) xs (omega (arith, same)))
      | inr order ↦ elim order [
        | inl before ↦ inl (get_or xs i d, drop_next xs i d before, slice_get-get_or xs i d before)
        | inr behind ↦ inr (drop_all i xs (omega (arith, behind)), slice_get_past xs i (omega (arith, behind)), drop_all (i + 1) xs (omega (arith, behind)))
      ]
    ]

no_misfits : (places : List Place) (ts : List ValueType) → misfits places ts [] ≡ []
no_misfits [] ts = refl
no_misfits (at ∷ places) [] = refl
no_misfits (at ∷ places) (t ∷ ts) = refl

none_more : (l : List Refusal) → l ≡ [] → earliest [] ≡ earlier_of None (earliest l)
unfolding earliest earlier_of
none_more l e = sym (ap earliest e)

-- ---- one type more

and_false : (b : Bool) → false ≡ b && false
and_false true = refl
and_false false = refl

and_true : (b : Bool) → b && true ≡ b
and_true true = refl
and_true false = refl

-- the domain of points of one dimension, if there is one, has another dimension or not
dim_if : (n m : ℕ) (c : Bool) → has_dim n (where_true c (Rc m)) ≡ (n == m) && c
dim_if n m true = sym (and_true (n == m))
dim_if n m false = and_false (n == m)

dim_more : (n m : ℕ) (ts : List ValueType)
    → has_dim n (where_true (all_points m ts) (Rc m)) ≡ (n == m) && all_points n ts
dim_more n m ts = dim_if n m (all_points m ts) ∙ by (n == m) refl
  where
    by : (b : Bool) → n == m ≡ b → (n == m) && all_points m ts ≡ (n == m) && all_points n ts
    by true e =
        let same : n ≡ m = (Decides-eqb n m).0 e in
        ap (λ k. (n == m) && all_points k ts) (sym same)
    by false e = ap (λ b. b && all_points m ts) e ∙ sym (ap (λ b. b && all_points n ts) e)

range_more : (t : ValueType) (ts : List ValueType)
    → range_before t (head_type ts) (range_of_points ts) ≡ range_of_points (t ∷ ts)
range_more (Pt n) [] = refl
range_more (Pt n) (Pt m ∷ ts) = ap (λ b. where_true b (Rc n)) (dim_more n m ts)
range_more (Pt n) (u ∷ ts) = refl
range_more t ts = refl

-- the summary of one type more, with this domain and this first misfit
abbrev with_more : ValueType → List ValueType → Option ValueType → Option Refusal → OperandSummary
with_more t ts range misfit = record {
  ints = is_int t && all_ints ts;
  first = Some t;
  second = head_type ts;
  range = range;
  points = is_point_type t && list_all is_point_type ts;
  misfit = misfit;
}

same_more : (t : ValueType) (ts : List ValueType) (a b : Option Refusal) → a ≡ b
    → with_more t ts (range_before t (head_type ts) (range_of_points ts)) a
    ≡ with_more t ts (range_of_points (t ∷ ts)) b
same_more t ts a b e =
    ap (λ r. with_more t ts r a) (range_more t ts)
    ∙ ap (with_more t ts (range_of_points (t ∷ ts))) e

pub told_more : (us : List ValueType) (i : ℕ) (at : Place) (places : List Place) (t : ValueType) (ts : List ValueType)
    → prepend at (slice_get us i) t (summary places (drop (i + 1) us) ts) ≡ summary (at ∷ places) (drop i us) (t ∷ ts)
told_more us i at places t ts = elim (at_or_past Null us i) [
  | inl there ↦
      same_more t ts (earlier_of (parameter_refusal at t (slice_get us i))
      (earliest (misfits places ts (drop (i + 1) us))))
      (earliest (misfits (at ∷ places) (t ∷ ts) (drop i us)))
      (ap (λ o. earlier_of (parameter_refusal at t o) (earliest (misfits places ts (drop (i + 1) us)))) there.2
      ∙ sym (first_append (misfit at t there.0) (misfits places ts (drop (i + 1) us)))
      ∙ sym (ap (λ l. earliest (misfits (at ∷ places) (t ∷ ts) l)) there.1))
  | inr past ↦
      same_more t ts (earlier_of (parameter_refusal at t (slice_get us i))
      (earliest (misfits places ts (drop (i + 1) us))))
      (earliest (misfits (at ∷ places) (t ∷ ts) (drop i us)))
      (ap (λ o. earlier_of (parameter_refusal at t o) (earliest (misfits places ts (drop (i + 1) us)))) past.1
      ∙ sym (none_more (misfits places ts (drop (i + 1) us)) (ap (misfits places ts) past.2 ∙ no_misfits places ts))
      ∙ sym (ap (λ l. earliest (misfits (at ∷ places) (t ∷ ts) l)) past.0))
]

-- the same, where all have types
pub told_step : (us : List ValueType) (i : ℕ) (at : Place) (places : List Place) (o : Option ValueType) (q : Option (List ValueType))
    → and_then_both o (option_map (summary places (drop (i + 1) us)) q) (λ t others. Some (prepend at (slice_get us i) t others)) ≡ option_map (summary (at ∷ places) (drop i us)) (append_both (one o) q)
told_step us i at places None q = refl
told_step us i at places (Some t) None = refl
told_step us i at places (Some t) (Some ts) = ap Some (told_more us i at places t ts)

-- ---- whether all fit

sooner_some : (r : Refusal) (a : Option Refusal) → is_none (earlier_of (Some r) a) ≡ false
unfolding earlier_of
sooner_some r None = refl
sooner_some r (Some s) = by (counts_before s r)
  where
    by : (b : Bool) → is_none (if b then Some s else Some r) ≡ false
    by true = refl
    by false = refl

pub differ : (n m : ℕ) → (n ≡ m → ⊥) → n == m ≡ false
differ n m apart = by (n == m) refl
  where
    by : (b : Bool) → n == m ≡ b → n == m ≡ false
    by true e = absurd (apart ((Decides-eqb n m).0 e))
    by false e = e

equal_next : (n m : ℕ) → (suc n == suc m) ≡ (n == m)
equal_next n m = by (n == m) refl
  where
    by : (b : Bool) → n == m ≡ b → (suc n == suc m) ≡ (n == m)
    by true e = let same : n ≡ m = (Decides-eqb n m).0 e in (Decides-eqb (suc n) (suc m)).1 (ap suc same) ∙ sym e
    by false e = differ (suc n) (suc m) (λ same. true≢false (sym ((Decides-eqb n m).1 (omega (arith, same))) ∙ e)) ∙ sym e

abbrev rule_of : ValueType → ValueType → Rule
rule_of t u = if fits (erase_dims t) (erase_dims u) then Y5 else if fits (as_local t) u then Q1 else Y2

fine : (at : Place) (t u : ValueType) → fits t u ≡ true → misfit at t u ≡ []
fine at t u is = ap (λ b. if b then [] else refusal_at (rule_of t u) at) is

wrong : (at : Place) (t u : ValueType) → fits t u ≡ false → misfit at t u ≡ refusal_at (rule_of t u) at
wrong at t u is = ap (λ b. if b then [] else refusal_at (rule_of t u) at) is

-- as many values as are wanted all fit exactly where there is no misfit
fit_test : (places : List Place) (ts us : List ValueType) → length places ≡ length ts → all_fit ts us ≡ (length ts == length us) && is_none (earliest (misfits places ts us))
unfolding earliest
fit_test [] [] [] same = refl
fit_test (at ∷ places) [] [] same = absurd (omega (arith, same))
fit_test places [] (u ∷ us) same = sym (ap (λ b. b && is_none (earliest (misfits places [] (u ∷ us)))) (differ 0 (suc (length us)) (λ e. omega (arith, e))))
fit_test places (t ∷ ts) [] same = sym (ap (λ b. b && is_none (earliest (misfits places (t ∷ ts) []))) (differ (suc (length ts)) 0 (λ e. omega (arith, e))))
fit_test [] (t ∷ ts) (u ∷ us) same = absurd (omega (arith, same))
fit_test (at ∷ places) (t ∷ ts) (u ∷ us) same = by (fits t u) refl (fit_test places ts us (omega (arith, same)))
  where
    by : (b : Bool) → fits t u ≡ b → all_fit ts us ≡ (length ts == length us) && is_none (earliest (misfits places ts us))
        → fits t u && all_fit ts us ≡ (suc (length ts) == suc (length us)) && is_none (earliest (misfit at t u ++ misfits places ts us))
    by true is others =
        ap (λ b. b && all_fit ts us) is ∙ others ∙ sym (ap (λ b. b && is_none (earliest (misfits places ts us))) (equal_next (length ts) (length us)))
        ∙ sym (ap (λ l. (suc (length ts) == suc (length us)) && is_none (earliest (l ++ misfits places ts us))) (fine at t u is))
    by false is others =
        ap (λ b. b && all_fit ts us) is ∙ and_false (suc (length ts) == suc (length us))
        ∙ sym (ap (λ b. (suc (length ts) == suc (length us)) && b) (ap (λ l. is_none (earliest (l ++ misfits places ts us)))
        (wrong at t u is) ∙ sooner_some (record { rule = rule_of t u; place = at }) (earliest (misfits places ts us))))

-- ---- the call

counted : (params : List NumberedParam) → length (types_of params) ≡ length params
counted [] = refl
counted (p ∷ rest) = ap suc (counted rest)

takes_is : (places : List Place) (params : NumberedParams) (ts : List ValueType) (count : ℕ) → count ≡ length places → length places ≡ length ts
    → params_accept params count (earliest (misfits places ts (types_in params))) ≡ takes params ts
takes_is places MainArgs ts count is same = refl
takes_is places (Params params) ts count is same =
    ap (λ n. (n == length params) && is_none (earliest (misfits places ts (types_of params)))) (is ∙ same)
    ∙ ap (λ n. (length ts == n) && is_none (earliest (misfits places ts (types_of params)))) (sym (counted params))
    ∙ sym (fit_test places ts (types_of params) same)

-- what is known of a call
pub called_is : (places : List Place) (m : Option NumberedMethod) (o : Option (List ValueType)) (count : ℕ) → count ≡ length places → ((ts : List ValueType) → o ≡ Some ts → length places ≡ length ts)
    → summary_call m count (option_map (summary places (parameter_types m)) o) ≡ called m o
called_is places m None count is same = refl
called_is places None (Some ts) count is same = refl
called_is places (Some m) (Some ts) count is same =
    ap (λ b. let k : ExprTyping = record { type = where_true b (result_type m); is_call = true } in k) (takes_is places m.params ts count is (same ts refl))

choose : (b : Bool) (l r : List Refusal) → (if b then earliest l else earliest r) ≡ earliest (if b then l else r)
choose true l r = refl
choose false l r = refl

params_are : (at : Place) (places : List Place) (params : NumberedParams) (ts : List ValueType) (count : ℕ) → count ≡ length ts
    → summary_params_refusal at places params count (earliest (misfits places ts (types_in params))) ≡ earliest (params_refusals at places params ts)
params_are at places MainArgs ts count is =
    ap (λ n. if n == 1 then earliest (first_misfit places) else earliest (refusal_at Y4 at)) is ∙ choose (length ts == 1) (first_misfit places) (refusal_at Y4 at)
params_are at places (Params params) ts count is =
    ap (λ n. if n == length params then earliest (misfits places ts (types_of params)) else earliest (refusal_at Y4 at)) is
    ∙ choose (length ts == length params) (misfits places ts (types_of params)) (refusal_at Y4 at)

-- what counts of what is wrong with it
pub refusal_is : (at : Place) (places : List Place) (m : Option NumberedMethod) (o : Option (List ValueType)) (count : ℕ) → count
    ≡ length places → ((ts : List ValueType) → o ≡ Some ts → length places ≡ length ts)
    → summary_call_refusal at places m None count (option_map (summary places (parameter_types m)) o) ≡ earliest (judged o (λ ts. call_refusals at places m ts))
unfolding earliest
refusal_is at places m None count is same = refl
refusal_is at places None (Some ts) count is same = refl
refusal_is at places (Some m) (Some ts) count is same = params_are at places m.params ts count (is ∙ same ts refl)

-- the same behind an object
pub instance_is : (at : Place) (places : List Place) (m : Option NumberedMethod) (o : Option (List ValueType)) (count : ℕ) → count
    ≡ length places → ((ts : List ValueType) → o ≡ Some ts → length places ≡ length ts)
    → summary_call_refusal at places m (earliest (refusal_at Y1 at)) count (option_map (summary places (parameter_types m)) o) ≡ earliest (judged o (λ ts. instance_refusals at places m ts))
unfolding earliest
instance_is at places m None count is same = refl
instance_is at places None (Some ts) count is same = refl
instance_is at places (Some m) (Some ts) count is same = params_are at places m.params ts count (is ∙ same ts refl)
