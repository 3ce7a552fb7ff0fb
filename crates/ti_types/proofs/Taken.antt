-- An expression that has a type is proved to have operands with types, and no error in its own rule.
use Rattle.std.proofs.Common.{◌≡◌, ℕ, suc, ◌==◌, ◌-◌, nat_lt, Bool, true, false, not, ◌&&◌, ◌||◌, if◌then◌else◌, List, [], ◌∷◌, ◌++◌, length, map, Option, Some, None, is_some, option_and_then, refl, ap, ◌∙◌}
use Rattle.std.proofs.lemmas.Bool.{eq-eqb}
use Rattle.std.proofs.lemmas.List.{length-map}
use Rattle.ti_base.specs.declared.place.Place.{Place}
use Rattle.ti_lang.specs.Program.Types.{ValueType, Int, Pt, Rc, Dm, Region, Class, Grid, Void}
use Rattle.ti_lang.specs.Program.Classes.{NumberedParam, NumberedParams, MainArgs, Params, NumberedMethod, ProgramView}
use Rattle.ti_lang.specs.Typing.Kinds.{where_true, is_void, is_local}
use Rattle.ti_lang.specs.Typing.Alike.{erase_dims}
use Rattle.ti_lang.specs.Typing.Fits.{fits}
use Rattle.ti_lang.specs.Typing.BuiltIn.{BuiltIn, Size, Min, Max, Contains, Domain, Restrict, Translate, Slice, Copy, Exchange, Delete, built_in, same_grids, can_copy, can_exchange, member_type}
use Rattle.ti_lang.specs.Typing.Declared.{instance_method, result_type, types_of}
use Rattle.ti_lang.specs.Typing.Expressions.{ExprTyping, operand, and_then_both, append_both, one, all_fit, takes, call_type, called, member_given, member_typing}
use Rattle.ti_rules.specs.declared.rule.Rule.TheVariants.{Y4, Y5, Y6, Q2, Q3}
use Rattle.ti_rules.specs.declared.refusal.Refusal.{Refusal}
use Rattle.ti_rules.specs.Refusals.{refused_if}
use Rattle.ti_rules.specs.Known.{IsThere}
use Rattle.ti_rules.specs.Broken.Refused.{refusal_at, judged, both_judged, operand_refusal, misfit}
use Rattle.ti_rules.specs.Broken.Misplaced.{misplaced_at}
use Rattle.ti_rules.specs.Broken.Calls.{misfits, takes_local, params_refusals, call_refusals, instance_refusals, built_in_refusals, member_refusals}
use Rattle.ti_rules.proofs.Lemmas.{and_left, and_right}

-- ---- tests

pub none_both : (xs ys : List Refusal) → xs ≡ [] → ys ≡ [] → xs ++ ys ≡ []
none_both xs ys e d = ap (λ l. l ++ ys) e ∙ d

then_is : (b : Bool) (xs ys : List Refusal) → b ≡ true → (if b then xs else ys) ≡ xs
then_is true xs ys e = refl
then_is false xs ys e = cc

test_holds : {A : Type 0} (b : Bool) (a : A) → IsThere (where_true b a) → b ≡ true
test_holds true a there = refl
test_holds false a there = cc there.1

pub where_taken : {A : Type 0} (at : Place) (b otherwise : Bool) (a : A) → IsThere (where_true b a) → operand_refusal at b otherwise ≡ []
where_taken at true otherwise a there = refl
where_taken at false otherwise a there = cc there.1

pub is_taken : {A : Type 0} (at : Place) (o : Option A) (otherwise : Bool) → IsThere o → operand_refusal at (is_some o) otherwise ≡ []
is_taken at None otherwise there = cc there.1
is_taken at (Some a) otherwise there = refl

-- ---- operands

pub first_there : {A B : Type 0} (o : Option A) (give : A → Option B) → IsThere (option_and_then give o) → IsThere o
first_there None give there = cc there.1
first_there (Some a) give there = (a, refl)

pub judged_none : {A B : Type 0} (o : Option A) (rule : A → List Refusal) (give : A → Option B) → IsThere (option_and_then give o) → ((a : A) → IsThere (give a) → rule a ≡ []) → judged o rule ≡ []
judged_none None rule give there none = refl
judged_none (Some a) rule give there none = none a there

pub left_there : {A B C : Type 0} (o : Option A) (q : Option B) (give : A → B → Option C) → IsThere (and_then_both o q give) → IsThere o
left_there None q give there = cc there.1
left_there (Some a) q give there = (a, refl)

pub right_there : {A B C : Type 0} (o : Option A) (q : Option B) (give : A → B → Option C) → IsThere (and_then_both o q give) → IsThere q
right_there None q give there = cc there.1
right_there (Some a) None give there = cc there.1
right_there (Some a) (Some b) give there = (b, refl)

pub both_none : {A B C : Type 0} (o : Option A) (q : Option B) (rule : A → B → List Refusal) (give : A → B → Option C)
    → IsThere (and_then_both o q give) → ((a : A) (b : B) → IsThere (give a b) → rule a b ≡ []) → both_judged o q rule ≡ []
both_none None q rule give there none = refl
both_none (Some a) None rule give there none = refl
both_none (Some a) (Some b) rule give there none = none a b there

pub front_there : {A : Type 0} (o q : Option (List A)) → IsThere (append_both o q) → IsThere o
front_there None q there = cc there.1
front_there (Some xs) q there = (xs, refl)

pub back_there : {A : Type 0} (o q : Option (List A)) → IsThere (append_both o q) → IsThere q
back_there None q there = cc there.1
back_there (Some xs) None there = cc there.1
back_there (Some xs) (Some ys) there = (ys, refl)

pub single_there : {A : Type 0} (o : Option A) → IsThere (one o) → IsThere o
single_there None there = cc there.1
single_there (Some a) there = (a, refl)

value_there : (type : Option ValueType) (is_call : Bool) → IsThere (operand (record { type = type; is_call = is_call })) → IsThere type
value_there None true there = cc there.1
value_there None false there = cc there.1
value_there (Some t) is_call there = (t, refl)

value_placed : (type : Option ValueType) (is_call : Bool) (at : Place) → IsThere (operand (record { type = type; is_call = is_call }))
    → misplaced_at at (record { type = type; is_call = is_call }) ≡ []
value_placed type true at there = cc there.1
value_placed None false at there = refl
value_placed (Some t) false at there = by (is_void t) there
  where
    by : (b : Bool) → IsThere (if not b then Some t else None) → refused_if b Y6 at ≡ []
    by true there = cc there.1
    by false there = refl

-- what has a type inside another expression has one, and can stand there
pub type_there : (k : ExprTyping) → IsThere (operand k) → IsThere k.type
type_there k there = value_there k.type k.is_call there

pub is_placed : (k : ExprTyping) (at : Place) → IsThere (operand k) → misplaced_at at k ≡ []
is_placed k at there = value_placed k.type k.is_call at there

-- ---- declared methods

fit_none : (places : List Place) (ts us : List ValueType) → all_fit ts us ≡ true → misfits places ts us ≡ []
fit_none [] ts us e = refl
fit_none (at ∷ places) [] us e = refl
fit_none (at ∷ places) (t ∷ ts) [] e = refl
fit_none (at ∷ places) (t ∷ ts) (u ∷ us) e =
    let first : misfit at t u ≡ [] = then_is (fits t u) [] _ (and_left (fits t u) (all_fit ts us) e) in
    none_both (misfit at t u) (misfits places ts us) first (fit_none places ts us (and_right (fits t u) (all_fit ts us) e))

count_fit : (ts us : List ValueType) → all_fit ts us ≡ true → length ts ≡ length us
count_fit [] [] e = refl
count_fit [] (u ∷ us) e = cc
count_fit (t ∷ ts) [] e = cc
count_fit (t ∷ ts) (u ∷ us) e = ap suc (count_fit ts us (and_right (fits t u) (all_fit ts us) e))

params_none : (at : Place) (places : List Place) (params : NumberedParams) (ts : List ValueType) → takes params ts ≡ true → params_refusals at places params ts ≡ []
params_none at places MainArgs ts e = cc
params_none at places (Params params) ts e =
    let count : length ts ≡ length params = count_fit ts (types_of params) e ∙ length-map params (λ (p : NumberedParam). p.ty.type) in
    then_is (length ts == length params) (misfits places ts (types_of params)) (refusal_at Y4 at) (eq-eqb (length ts) (length params) count) ∙ fit_none places ts (types_of params) e

call_none : (at : Place) (places : List Place) (m : Option NumberedMethod) (ts : List ValueType) → IsThere (call_type m ts) → call_refusals at places m ts ≡ []
call_none at places None ts there = refl
call_none at places (Some m) ts there = params_none at places m.params ts (test_holds (takes m.params ts) (result_type m) there)

instance_none : (at : Place) (places : List Place) (m : Option NumberedMethod) (ts : List ValueType) → IsThere (call_type m ts) → instance_refusals at places m ts ≡ []
instance_none at places None ts there = cc there.1
instance_none at places (Some m) ts there = call_none at places (Some m) ts there

pub arguments_there : (m : Option NumberedMethod) (o : Option (List ValueType)) → IsThere (called m o).type → IsThere o
arguments_there m None there = cc there.1
arguments_there m (Some ts) there = (ts, refl)

pub called_none : (at : Place) (places : List Place) (m : Option NumberedMethod) (o : Option (List ValueType)) → IsThere (called m o).type → judged o (λ ts. call_refusals at places m ts) ≡ []
called_none at places m None there = refl
called_none at places m (Some ts) there = call_none at places m ts there

-- ---- members that the language gives

slice_none : (at : Place) (b : Bool) (t : ValueType) → IsThere (where_true b t) → (if b then operand_refusal at true false else refusal_at Y5 at) ≡ []
slice_none at true t there = refl
slice_none at false t there = cc there.1

copy_none : (at : Place) (t u : ValueType) → IsThere (member_type Copy t (u ∷ [])) → built_in_refusals at (Some Copy) t (u ∷ []) ≡ []
copy_none at (Grid v n local) u there = by (same_grids (Grid v n local) u) (can_copy (Grid v n local) u) (same_grids (erase_dims (Grid v n local)) (erase_dims u)) there
  where
    by : (a b c : Bool) → IsThere (where_true (a && b) Void) → (if a then refused_if (not b) Q2 at else operand_refusal at false c) ≡ []
    by true true c there = refl
    by true false c there = cc there.1
    by false b c there = cc there.1
copy_none at t u there = cc there.1

exchange_none : (at : Place) (t u : ValueType) → IsThere (member_type Exchange t (u ∷ [])) → built_in_refusals at (Some Exchange) t (u ∷ []) ≡ []
exchange_none at (Grid v n local) u there = by (can_exchange (Grid v n local) u) (takes_local (Grid v n local) u) (is_local v) (can_exchange (erase_dims (Grid v n local)) (erase_dims u)) there
  where
    by : (a b c d : Bool) → IsThere (where_true (a && not c) Void) → operand_refusal at (a || b) d ++ refused_if c Q3 at ≡ []
    by true b true d there = cc there.1
    by true b false d there = refl
    by false b c d there = cc there.1
exchange_none at t u there = cc there.1

-- the arguments of any other member
with_member : (at : Place) (b : BuiltIn) (t : ValueType) (ts : List ValueType) → IsThere (member_type b t ts)
    → operand_refusal at (is_some (member_type b t ts)) (is_some (member_type b (erase_dims t) (map erase_dims ts))) ≡ []
with_member at b t ts there = is_taken at (member_type b t ts) (is_some (member_type b (erase_dims t) (map erase_dims ts))) there

built_in_none : (at : Place) (b : BuiltIn) (t : ValueType) (ts : List ValueType) → IsThere (member_type b t ts) → built_in_refusals at (Some b) t ts ≡ []
built_in_none at Size (Rc n) [] there = refl
built_in_none at Size (Dm n) [] there = refl
built_in_none at Min (Rc n) [] there = refl
built_in_none at Max (Rc n) [] there = refl
built_in_none at Contains (Rc n) (Pt m ∷ []) there = with_member at Contains (Rc n) (Pt m ∷ []) there
built_in_none at Contains (Dm n) (Pt m ∷ []) there = with_member at Contains (Dm n) (Pt m ∷ []) there
built_in_none at Domain (Grid t n local) [] there = refl
built_in_none at Restrict (Grid t n local) (Rc m ∷ []) there = with_member at Restrict (Grid t n local) (Rc m ∷ []) there
built_in_none at Translate (Grid t n local) (Pt m ∷ []) there = with_member at Translate (Grid t n local) (Pt m ∷ []) there
built_in_none at Slice (Grid t n local) (Int ∷ Int ∷ []) there = slice_none at (nat_lt 1 n) (Grid t (n - 1) local) there
built_in_none at Copy t (u ∷ []) there = copy_none at t u there
built_in_none at Exchange t (u ∷ []) there = exchange_none at t u there
built_in_none at Delete Region [] there = refl
built_in_none at b t ts there = cc there.1

given_none : (at : Place) (b : Option BuiltIn) (t : ValueType) (ts : List ValueType) → IsThere (option_and_then (λ (b : BuiltIn). member_type b t ts) b) → built_in_refusals at b t ts ≡ []
given_none at None t ts there = cc there.1
given_none at (Some b) t ts there = built_in_none at b t ts there

-- ---- both

behind_none : (p : ProgramView) (at : Place) (places : List Place) (name : ℕ) (t : ValueType) (ts : List ValueType)
    → IsThere (member_given p t name ts).type → member_refusals p at places name t ts ≡ []
behind_none p at places name (Class c local) ts there = instance_none at places (instance_method p c name) ts there
behind_none p at places name t ts there = given_none at (built_in p name) t ts there

pub receiver_there : (p : ProgramView) (name : ℕ) (o : Option ValueType) (q : Option (List ValueType)) → IsThere (member_typing p o name q).type → IsThere o
receiver_there p name None q there = cc there.1
receiver_there p name (Some t) q there = (t, refl)

pub behind_there : (p : ProgramView) (name : ℕ) (o : Option ValueType) (q : Option (List ValueType)) → IsThere (member_typing p o name q).type → IsThere q
behind_there p name None q there = cc there.1
behind_there p name (Some t) None there = cc there.1
behind_there p name (Some t) (Some ts) there = (ts, refl)

pub member_none : (p : ProgramView) (at : Place) (places : List Place) (name : ℕ) (o : Option ValueType) (q : Option (List ValueType)) → IsThere (member_typing p o name q).type
    → both_judged o q (λ t ts. member_refusals p at places name t ts) ≡ []
member_none p at places name None q there = refl
member_none p at places name (Some t) None there = refl
member_none p at places name (Some t) (Some ts) there = behind_none p at places name t ts there
