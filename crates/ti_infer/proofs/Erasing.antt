-- The type rules of an expression don't depend on annotations.
use Rattle.std.proofs.Common.{◌≡◌, ◌==◌, ℕ, suc, Bool, false, if◌then◌else◌, List, [], ◌∷◌, ◌++◌, map, flat_map, length, slice_get, Option, Some, None, option_map, is_some, refl, ap, ap₂, sym, ◌∙◌}
use Rattle.ti_base.specs.declared.place.Place.{Place}
use Rattle.ti_lang.specs.Program.Types.{ValueType, Class}
use Rattle.ti_lang.specs.Program.Types as t
use Rattle.ti_lang.specs.Program.Expressions.{NumberedExp, NumberedExps, NumberedRange, NumberedRanges, place_of_numbered}
use Rattle.ti_lang.specs.Program.Expressions as e
use Rattle.ti_lang.specs.Program.Classes.{NumberedParams, MainArgs, Params, NumberedMethod, ProgramView}
use Rattle.ti_lang.specs.Program.Scope.{ScopeContents}
use Rattle.ti_lang.specs.Typing.Alike.{erase_dims}
use Rattle.ti_lang.specs.Typing.Declared.{instance_method}
use Rattle.ti_lang.specs.Typing.Expressions.{rect_literal, operand_type}
use Rattle.ti_rules.specs.declared.refusal.Refusal.{Refusal}
use Rattle.ti_rules.specs.declared.rule.Rule.TheVariants.{Y4}
use Rattle.ti_rules.specs.Parts.{parts, parts_of_all, parts_of_range, parts_of_ranges}
use Rattle.ti_rules.specs.Broken.Refused.{refusal_at, judged, both_judged, operand_refusal}
use Rattle.ti_rules.specs.Broken.Calls.{misfits, params_refusals, call_refusals, instance_refusals, built_in_refusals, member_refusals}
use Rattle.ti_rules.specs.Broken.Misplaced.{misplaced_at, misplaced, all_misplaced, bound_misplaced, bounds_misplaced}
use Rattle.ti_rules.specs.Broken.Words.{type_word_refusals}
use Rattle.ti_rules.specs.Broken.Expressions.{places_of, refusals_at, exp_refusals}
use Rattle.ti_blame.specs.Marks.{Marks}
use Rattle.ti_infer.specs.Marked.{marked_exp, marked_exps, marked_range, marked_ranges, marked_param, marked_params, marked_method, marked}
use Rattle.ti_infer.proofs.Same.{method_same, instance_same, built_in_same, count_same}
use Rattle.ti_infer.proofs.Knowing.{SameTypes, types_known, select_known, known_same, operands_same, bounds_same, operand_same}

-- ---- places

pub place_same : (singles : ℕ → Bool) (x : NumberedExp) → place_of_numbered (marked_exp singles x) ≡ place_of_numbered x
place_same singles (e.Int at n) = refl
place_same singles (e.Long at n) = refl
place_same singles (e.Truth at b) = refl
place_same singles (e.Null at) = refl
place_same singles (e.This at) = refl
place_same singles (e.Variable at v) = refl
place_same singles (e.OwnField at field) = refl
place_same singles (e.Call at method args) = refl
place_same singles (e.OwnCall at method args) = refl
place_same singles (e.ThisProc at) = refl
place_same singles (e.NumProcs at) = refl
place_same singles (e.Point at xs) = refl
place_same singles (e.Rect at rs) = refl
place_same singles (e.Unary at op a) = refl
place_same singles (e.Binary at op a b) = refl
place_same singles (e.Cast at to a) = refl
place_same singles (e.Select at a name) = refl
place_same singles (e.Member at a name args) = refl
place_same singles (e.Index at a xs) = refl

places_same : (singles : ℕ → Bool) (xs : NumberedExps) → places_of (marked_exps singles xs) ≡ places_of xs
places_same singles e.NoExp = refl
places_same singles (e.MoreExp a rest) = ap₂ (λ x y. x ∷ y) (place_same singles a) (places_same singles rest)

-- ---- calls

length_same : {A : Type 0} (f : A → A) (xs : List A) → length (map f xs) ≡ length xs
length_same f [] = refl
length_same f (x ∷ xs) = ap (λ n. suc n) (length_same f xs)

params_same : (marks : Marks) (at : Place) (places : List Place) (ws : NumberedParams) (ts : List ValueType) → params_refusals at places (marked_params marks ws) ts ≡ params_refusals at places ws ts
params_same marks at places MainArgs ts = refl
params_same marks at places (Params ws) ts = ap₂ (λ n us. if length ts == n then misfits places ts us else refusal_at Y4 at) (length_same (marked_param marks) ws) (types_known marks ws)

calls_same : (marks : Marks) (at : Place) (places : List Place) (o : Option NumberedMethod) (ts : List ValueType)
    → call_refusals at places (option_map (marked_method marks) o) ts ≡ call_refusals at places o ts
calls_same marks at places None ts = refl
calls_same marks at places (Some m) ts = params_same marks at places m.params ts

instances_same : (marks : Marks) (at : Place) (places : List Place) (o : Option NumberedMethod) (ts : List ValueType)
    → instance_refusals at places (option_map (marked_method marks) o) ts ≡ instance_refusals at places o ts
instances_same marks at places None ts = refl
instances_same marks at places (Some m) ts = params_same marks at places m.params ts

members_same : (marks : Marks) (p : ProgramView) (at : Place) (places : List Place) (name : ℕ) (x : ValueType) (ts : List ValueType)
    → member_refusals (marked marks p) at places name x ts ≡ member_refusals p at places name x ts
members_same marks p at places name (t.Class class is_local) ts =
    ap (λ o. instance_refusals at places o ts) (instance_same marks p class name)
    ∙ instances_same marks at places (instance_method p class name) ts
members_same marks p at places name t.Int ts = ap (λ b. built_in_refusals at b t.Int ts) (built_in_same marks p name)
members_same marks p at places name t.Long ts = ap (λ b. built_in_refusals at b t.Long ts) (built_in_same marks p name)
members_same marks p at places name t.Boolean ts = ap (λ b. built_in_refusals at b t.Boolean ts) (built_in_same marks p name)
members_same marks p at places name (t.Pt n) ts = ap (λ b. built_in_refusals at b (t.Pt n) ts) (built_in_same marks p name)
members_same marks p at places name (t.Rc n) ts = ap (λ b. built_in_refusals at b (t.Rc n) ts) (built_in_same marks p name)
members_same marks p at places name (t.Dm n) ts = ap (λ b. built_in_refusals at b (t.Dm n) ts) (built_in_same marks p name)
members_same marks p at places name t.Region ts = ap (λ b. built_in_refusals at b t.Region ts) (built_in_same marks p name)
members_same marks p at places name (t.Grid u n l) ts = ap (λ b. built_in_refusals at b (t.Grid u n l) ts) (built_in_same marks p name)
members_same marks p at places name t.Null ts = ap (λ b. built_in_refusals at b t.Null ts) (built_in_same marks p name)
members_same marks p at places name t.Void ts = ap (λ b. built_in_refusals at b t.Void ts) (built_in_same marks p name)

-- ---- rules over operands

pub judged_same : {A : Type 0} (o q : Option A) (f g : A → List Refusal) → o ≡ q → ((a : A) → f a ≡ g a) → judged o f ≡ judged q g
judged_same {A = A} o q f g is same = ap (λ z. judged z f) is ∙ by q
  where
    by : (q : Option A) → judged q f ≡ judged q g
    by None = refl
    by (Some a) = same a

pub both_same : {A B : Type 0} (o q : Option A) (x y : Option B) (f g : A → B → List Refusal) → o ≡ q → x ≡ y → ((a : A) (b : B) → f a b ≡ g a b) → both_judged o x f ≡ both_judged q y g
both_same {A = A} {B = B} o q x y f g is_o is_x same = ap₂ (λ z w. both_judged z w f) is_o is_x ∙ by q y
  where
    by : (q : Option A) (y : Option B) → both_judged q y f ≡ both_judged q y g
    by (Some a) (Some b) = same a b
    by (Some a) None = refl
    by None (Some b) = refl
    by None None = refl

-- ---- lists

map_append : {A B : Type 0} (f : A → B) (xs ys : List A) → map f (xs ++ ys) ≡ map f xs ++ map f ys
map_append f [] ys = refl
map_append f (x ∷ xs) ys = ap (λ zs. f x ∷ zs) (map_append f xs ys)

pub each_same : {A B : Type 0} (f h : A → List B) (g : A → A) (xs : List A) → ((a : A) → f (g a) ≡ h a) → flat_map f (map g xs) ≡ flat_map h xs
each_same f h g [] same = refl
each_same f h g (x ∷ xs) same = ap₂ (λ a b. a ++ b) (same x) (each_same f h g xs same)

module _ (singles : ℕ → Bool) where
  two : (a b c d : List NumberedExp) → a ≡ map (marked_exp singles) c → b ≡ map (marked_exp singles) d → a ++ b ≡ map (marked_exp singles) (c ++ d)
  two a b c d h k = ap₂ (λ x y. x ++ y) h k ∙ sym (map_append (marked_exp singles) c d)

  mutual
    pub parts_same : (x : NumberedExp) → parts (marked_exp singles x) ≡ map (marked_exp singles) (parts x)
    parts_same (e.Call at method args) = two _ _ (parts_of_all args) (e.Call at method args ∷ []) (parts_all_same args) refl
    parts_same (e.OwnCall at method args) = two _ _ (parts_of_all args) (e.OwnCall at method args ∷ []) (parts_all_same args) refl
    parts_same (e.Point at xs) = two _ _ (parts_of_all xs) (e.Point at xs ∷ []) (parts_all_same xs) refl
    parts_same (e.Rect at rs) = two _ _ (parts_of_ranges rs) (e.Rect at rs ∷ []) (parts_ranges_same rs) refl
    parts_same (e.Unary at op a) = two _ _ (parts a) (e.Unary at op a ∷ []) (parts_same a) refl
    parts_same (e.Binary at op a b) = two _ _ (parts a ++ parts b) (e.Binary at op a b ∷ []) (two _ _ (parts a) (parts b) (parts_same a) (parts_same b)) refl
    parts_same (e.Cast at to a) = two _ _ (parts a) (e.Cast at to a ∷ []) (parts_same a) refl
    parts_same (e.Select at a name) = two _ _ (parts a) (e.Select at a name ∷ []) (parts_same a) refl
    parts_same (e.Member at a name args) = two _ _ (parts a ++ parts_of_all args) (e.Member at a name args ∷ []) (two _ _ (parts a) (parts_of_all args) (parts_same a) (parts_all_same args)) refl
    parts_same (e.Index at a xs) = two _ _ (parts a ++ parts_of_all xs) (e.Index at a xs ∷ []) (two _ _ (parts a) (parts_of_all xs) (parts_same a) (parts_all_same xs)) refl
    parts_same _ = refl

    parts_all_same : (xs : NumberedExps) → parts_of_all (marked_exps singles xs) ≡ map (marked_exp singles) (parts_of_all xs)
    parts_all_same e.NoExp = refl
    parts_all_same (e.MoreExp a rest) = two _ _ (parts a) (parts_of_all rest) (parts_same a) (parts_all_same rest)

    parts_range_same : (r : NumberedRange) → parts_of_range (marked_range singles r) ≡ map (marked_exp singles) (parts_of_range r)
    parts_range_same (e.Plain low high) = two _ _ (parts low) (parts high) (parts_same low) (parts_same high)
    parts_range_same (e.Stepped low high step) = two _ _ (parts low ++ parts high) (parts step) (two _ _ (parts low) (parts high) (parts_same low) (parts_same high)) (parts_same step)

    pub parts_ranges_same : (rs : NumberedRanges) → parts_of_ranges (marked_ranges singles rs) ≡ map (marked_exp singles) (parts_of_ranges rs)
    parts_ranges_same e.NoRange = refl
    parts_ranges_same (e.MoreRange r rest) = two _ _ (parts_of_range r) (parts_of_ranges rest) (parts_range_same r) (parts_ranges_same rest)

-- ---- expressions

module _ (marks : Marks) (p : ProgramView) (singles : ℕ → Bool) (s r : ScopeContents) (same : SameTypes s r) where
  pub misplaced_same : (x : NumberedExp) → misplaced (marked marks p) s (marked_exp singles x) ≡ misplaced p r x
  misplaced_same x = ap₂ misplaced_at (place_same singles x) (known_same marks p singles s r same x)

  all_misplaced_same : (xs : NumberedExps) → all_misplaced (marked marks p) s (marked_exps singles xs) ≡ all_misplaced p r xs
  all_misplaced_same e.NoExp = refl
  all_misplaced_same (e.MoreExp a rest) = ap₂ (λ x y. x ++ y) (misplaced_same a) (all_misplaced_same rest)

  bound_misplaced_same : (x : NumberedRange) → bound_misplaced (marked marks p) s (marked_range singles x) ≡ bound_misplaced p r x
  bound_misplaced_same (e.Plain low high) = ap₂ (λ x y. x ++ y) (misplaced_same low) (misplaced_same high)
  bound_misplaced_same (e.Stepped low high step) = ap₂ (λ x y. x ++ y) (ap₂ (λ x y. x ++ y) (misplaced_same low) (misplaced_same high)) (misplaced_same step)

  pub bounds_misplaced_same : (xs : NumberedRanges) → bounds_misplaced (marked marks p) s (marked_ranges singles xs) ≡ bounds_misplaced p r xs
  bounds_misplaced_same e.NoRange = refl
  bounds_misplaced_same (e.MoreRange x rest) = ap₂ (λ x y. x ++ y) (bound_misplaced_same x) (bounds_misplaced_same rest)

  types : (x : NumberedExp) → operand_type (marked marks p) s (marked_exp singles x) ≡ operand_type p r x
  types x = operand_same marks p singles s r same x

  called_at : (at : Place) (args : NumberedExps) (k : ℕ) (ts : List ValueType)
      → call_refusals at (places_of (marked_exps singles args)) (slice_get (marked marks p).methods k) ts
      ≡ call_refusals at (places_of args) (slice_get p.methods k) ts
  called_at at args k ts = ap₂ (λ places o. call_refusals at places o ts) (places_same singles args) (method_same marks p k) ∙ calls_same marks at (places_of args) (slice_get p.methods k) ts

  at_same : (x : NumberedExp) → refusals_at (marked marks p) s (marked_exp singles x) ≡ refusals_at p r x
  at_same (e.Call at method args) = ap₂ (λ x y. x ++ y) (all_misplaced_same args) (judged_same _ _ _ _ (operands_same marks p singles s r same args) (called_at at args method))
  at_same (e.OwnCall at method args) = ap₂ (λ x y. x ++ y) (all_misplaced_same args) (judged_same _ _ _ _ (operands_same marks p singles s r same args) (called_at at args method))
  at_same (e.Point at xs) = ap₂ (λ x y. x ++ y) (all_misplaced_same xs) (judged_same _ _ _ _ (operands_same marks p singles s r same xs) (λ ts. refl))
  at_same (e.Rect at ranges) =
      ap₂ (λ x y. x ++ y) (bounds_misplaced_same ranges)
      (judged_same _ _ _ _ (bounds_same marks p singles s r same ranges)
      (λ ts. ap (λ n. operand_refusal at (is_some (rect_literal n ts)) (is_some (rect_literal n (map erase_dims ts))))
      (count_same singles ranges)))
  at_same (e.Unary at op a) = ap₂ (λ x y. x ++ y) (misplaced_same a) (judged_same _ _ _ _ (types a) (λ y. refl))
  at_same (e.Binary at op a b) = ap₂ (λ x y. x ++ y) (ap₂ (λ x y. x ++ y) (misplaced_same a) (misplaced_same b)) (both_same _ _ _ _ _ _ (types a) (types b) (λ y z. refl))
  at_same (e.Cast at to a) = ap₂ (λ x y. x ++ y) (ap (λ x. type_word_refusals false to ++ x) (misplaced_same a)) (judged_same _ _ _ _ (types a) (λ y. refl))
  at_same (e.Select at a name) = ap₂ (λ x y. x ++ y) (misplaced_same a) (judged_same _ _ _ _ (types a) (λ y. ap (λ o. operand_refusal at (is_some o) false) (select_known marks p y name)))
  at_same (e.Member at a name args) =
      ap₂ (λ x y. x ++ y) (ap₂ (λ x y. x ++ y) (misplaced_same a) (all_misplaced_same args))
      (both_same _ _ _ _ _ _ (types a) (operands_same marks p singles s r same args)
      (λ y ts. ap (λ places. member_refusals (marked marks p) at places name y ts) (places_same singles args)
      ∙ members_same marks p at (places_of args) name y ts))
  at_same (e.Index at a xs) = ap₂ (λ x y. x ++ y) (ap₂ (λ x y. x ++ y) (misplaced_same a) (all_misplaced_same xs))
      (both_same _ _ _ _ _ _ (types a) (operands_same marks p singles s r same xs) (λ y ts. refl))
  at_same _ = refl

  -- the same is wrong in a marked expression
  pub exp_same : (x : NumberedExp) → exp_refusals (marked marks p) s (marked_exp singles x) ≡ exp_refusals p r x
  exp_same x = ap (flat_map (refusals_at (marked marks p) s)) (parts_same singles x) ∙ each_same (refusals_at (marked marks p) s) (refusals_at p r) (marked_exp singles) (parts x) at_same

  pub spread_same : (rs : NumberedRanges) → flat_map (refusals_at (marked marks p) s) (parts_of_ranges (marked_ranges singles rs)) ≡ flat_map (refusals_at p r) (parts_of_ranges rs)
  spread_same rs = ap (flat_map (refusals_at (marked marks p) s)) (parts_ranges_same singles rs)
      ∙ each_same (refusals_at (marked marks p) s) (refusals_at p r) (marked_exp singles) (parts_of_ranges rs) at_same
