-- The summaries of the types of indices, members and ranges are proved to determine what the typing rules need.
use Rattle.std.proofs.Common.{◌≡◌, ℕ, suc, ◌==◌, Bool, true, false, not, ◌&&◌, if◌then◌else◌, List, [], ◌∷◌, map, length, Option, Some, None, is_some, option_map, option_and_then, refl, sym, ap, ◌∙◌, arith}
use Rattle.std.specs.List.{list_all}
use Rattle.std.proofs.lemmas.Bool.Decides.{Decides-eqb}
use Rattle.ti_base.specs.declared.place.Place.{Place}
use Rattle.ti_lang.specs.Program.Types.{ValueType, Int, Pt, Rc, Dm, Region, Class, Grid}
use Rattle.ti_lang.specs.Program.Classes.{ProgramView}
use Rattle.ti_lang.specs.Typing.Kinds.{where_true, same_type, is_point_type, read_through}
use Rattle.ti_lang.specs.Typing.BuiltIn as b
use Rattle.ti_lang.specs.Typing.BuiltIn.{BuiltIn, built_in, member_type}
use Rattle.ti_lang.specs.Typing.Expressions.{ExprTyping, plain, is_int, all_ints, all_points, range_of_points, rect_literal, index_type, member_typing}
use Rattle.ti_rules.specs.declared.rule.Rule.TheVariants.{Y1, Y4}
use Rattle.ti_rules.specs.declared.refusal.Refusal.{Refusal}
use Rattle.ti_rules.specs.Mirrors.First.{earliest}
use Rattle.ti_lang.specs.Typing.Alike.{erase_dims}
use Rattle.ti_rules.specs.Broken.Refused.{refusal_at, judged, both_judged, operand_refusal}
use Rattle.ti_rules.specs.Broken.Calls.{has_member, argument_count, argument_refusals, built_in_refusals, member_refusals}
use Rattle.ti_rules.specs.Broken.Expressions.{other_indices}
use Rattle.ti_types.specs.Mirrors.Arguments.{OperandSummary, head_type, second_type, summary, parameter_types}
use Rattle.ti_types.specs.Mirrors.BuiltIn.{summary_member_type, other_refusals, one_refusals, arguments_by, summary_argument_refusals, summary_built_in_refusals}
use Rattle.ti_types.specs.Mirrors.Nodes.{summary_index_type, is_index, summary_other_indices, member_method, summary_member, summary_member_refusal, summary_rect_type, summary_fits_other_dims, summary_literal}
use Rattle.ti_types.specs.Results.{literal}
use Rattle.ti_types.proofs.Summaries.{differ, called_is, instance_is}

and_false : (b : Bool) → b && false ≡ false
and_false true = refl
and_false false = refl

-- ---- indices

more_than_one : (n : ℕ) → suc (suc n) == 1 ≡ false
more_than_one n = differ (suc (suc n)) 1 (λ e. omega (arith, e))

pub index_is : (places : List Place) (us : List ValueType) (t : ValueType) (ts : List ValueType) → summary_index_type (length ts) t (summary places us ts) ≡ index_type t ts
index_is places us (Pt n) [] = refl
index_is places us (Pt n) (Int ∷ []) = refl
index_is places us (Pt n) (u ∷ []) = refl
index_is places us (Pt n) (Int ∷ v ∷ ts) = ap (λ c. where_true (all_ints (v ∷ ts) && c) Int) (more_than_one (length ts)) ∙ ap (λ c. where_true c Int) (and_false (all_ints (v ∷ ts)))
index_is places us (Pt n) (u ∷ v ∷ ts) = refl
index_is places us (Grid t n local) [] = refl
index_is places us (Grid t n local) (Pt m ∷ []) = refl
index_is places us (Grid t n local) (Pt m ∷ v ∷ ts) = ap (λ c. where_true (c && (n == m)) (read_through local t)) (more_than_one (length ts))
index_is places us (Grid t n local) (u ∷ ts) = refl
index_is places us t ts = refl

pub other_is : (places : List Place) (us : List ValueType) (t : ValueType) (ts : List ValueType) → summary_other_indices (length ts) t (summary places us ts) ≡ other_indices t ts
other_is places us (Pt n) ts = refl
other_is places us (Grid t n local) [] = refl
other_is places us (Grid t n local) (Int ∷ []) = refl
other_is places us (Grid t n local) (Pt m ∷ []) = refl
other_is places us (Grid t n local) (u ∷ []) = refl
other_is places us (Grid t n local) (u ∷ v ∷ ts) = ap (λ c. if c then is_index (Some u) else not (suc (suc (length ts)) == n)) (more_than_one (length ts))
other_is places us t ts = refl

-- ---- members of the language

no_three : (m : BuiltIn) (t u v w : ValueType) (ts : List ValueType) → member_type m t (u ∷ v ∷ w ∷ ts) ≡ None
no_three b.Size (Rc n) u v w ts = refl
no_three b.Size (Dm n) u v w ts = refl
no_three b.Size t u v w ts = refl
no_three b.Min (Rc n) u v w ts = refl
no_three b.Min t u v w ts = refl
no_three b.Max (Rc n) u v w ts = refl
no_three b.Max t u v w ts = refl
no_three b.Contains (Rc n) (Pt m) v w ts = refl
no_three b.Contains (Rc n) u v w ts = refl
no_three b.Contains (Dm n) (Pt m) v w ts = refl
no_three b.Contains (Dm n) u v w ts = refl
no_three b.Contains t u v w ts = refl
no_three b.Domain (Grid e n local) u v w ts = refl
no_three b.Domain t u v w ts = refl
no_three b.Restrict (Grid e n local) (Rc m) v w ts = refl
no_three b.Restrict (Grid e n local) u v w ts = refl
no_three b.Restrict t u v w ts = refl
no_three b.Translate (Grid e n local) (Pt m) v w ts = refl
no_three b.Translate (Grid e n local) u v w ts = refl
no_three b.Translate t u v w ts = refl
no_three b.Slice (Grid e n local) Int Int w ts = refl
no_three b.Slice (Grid e n local) Int v w ts = refl
no_three b.Slice (Grid e n local) u v w ts = refl
no_three b.Slice t u v w ts = refl
no_three b.Copy t u v w ts = refl
no_three b.Exchange t u v w ts = refl
no_three b.Delete Region u v w ts = refl
no_three b.Delete t u v w ts = refl

more_than_two : (n : ℕ) → suc (suc (suc n)) == 2 ≡ false
more_than_two n = differ (suc (suc (suc n))) 2 (λ e. omega (arith, e))

pub member_is : (places : List Place) (us : List ValueType) (m : BuiltIn) (t : ValueType) (ts : List ValueType) → summary_member_type m t (length ts) (summary places us ts) ≡ member_type m t ts
member_is places us m t [] = refl
member_is places us m t (u ∷ []) = refl
member_is places us m t (u ∷ v ∷ []) = refl
member_is places us m t (u ∷ v ∷ w ∷ ts) = ap (λ c. option_and_then (member_type m t) (if c then Some (u ∷ v ∷ []) else None)) (more_than_two (length ts)) ∙ sym (no_three m t u v w ts)

-- a member with as many arguments as it takes
none_by : (at : Place) (places : List Place) (us : List ValueType) (m : BuiltIn) (t : ValueType) (ts : List ValueType) → length ts ≡ 0
    → arguments_by at m t 0 (head_type ts) (second_type ts) ≡ other_refusals at m t ts
none_by at places us m t [] is = refl
none_by at places us m t (u ∷ ts) is = absurd (omega (arith, is))

one_by : (at : Place) (m : BuiltIn) (t : ValueType) (ts : List ValueType) → length ts ≡ 1 → (u : ValueType) × (ts ≡ u ∷ [])
    × (arguments_by at m t 1 (head_type ts) (second_type ts) ≡ one_refusals at m t u)
one_by at m t [] is = absurd (omega (arith, is))
one_by at m t (u ∷ []) is = (u, refl, refl)
one_by at m t (u ∷ v ∷ ts) is = absurd (omega (arith, is))

arguments_are : (at : Place) (places : List Place) (us : List ValueType) (m : BuiltIn) (t : ValueType) (ts : List ValueType) → length ts
    ≡ argument_count m → summary_argument_refusals at m t (summary places us ts) ≡ argument_refusals at m t ts
arguments_are at places us b.Size t ts is = none_by at places us b.Size t ts is
arguments_are at places us b.Min t ts is = none_by at places us b.Min t ts is
arguments_are at places us b.Max t ts is = none_by at places us b.Max t ts is
arguments_are at places us b.Domain t ts is = none_by at places us b.Domain t ts is
arguments_are at places us b.Delete t ts is = none_by at places us b.Delete t ts is
arguments_are at places us b.Contains t ts is = let one = one_by at b.Contains t ts is in one.2 ∙ sym (ap (argument_refusals at b.Contains t) one.1)
arguments_are at places us b.Restrict t ts is = let one = one_by at b.Restrict t ts is in one.2 ∙ sym (ap (argument_refusals at b.Restrict t) one.1)
arguments_are at places us b.Translate t ts is = let one = one_by at b.Translate t ts is in one.2 ∙ sym (ap (argument_refusals at b.Translate t) one.1)
arguments_are at places us b.Copy t ts is = let one = one_by at b.Copy t ts is in one.2 ∙ sym (ap (argument_refusals at b.Copy t) one.1)
arguments_are at places us b.Exchange t ts is = let one = one_by at b.Exchange t ts is in one.2 ∙ sym (ap (argument_refusals at b.Exchange t) one.1)
arguments_are at places us b.Slice t [] is = absurd (omega (arith, is))
arguments_are at places us b.Slice t (u ∷ []) is = absurd (omega (arith, is))
arguments_are at places us b.Slice t (u ∷ v ∷ []) is = refl
arguments_are at places us b.Slice t (u ∷ v ∷ w ∷ ts) is = absurd (omega (arith, is))

else_same : (c : Bool) (xs ys zs : List Refusal) → (c ≡ true → ys ≡ zs) → (if not c then xs else ys) ≡ (if not c then xs else zs)
else_same true xs ys zs same = same refl
else_same false xs ys zs same = refl

pub built_in_is : (at : Place) (places : List Place) (us : List ValueType) (m : Option BuiltIn) (t : ValueType) (ts : List ValueType)
    → summary_built_in_refusals at m t (length ts) (summary places us ts) ≡ built_in_refusals at m t ts
built_in_is at places us None t ts = refl
built_in_is at places us (Some m) t ts =
    else_same (has_member m t) (refusal_at Y1 at) (if not (length ts == argument_count m) then refusal_at Y4 at else summary_argument_refusals at m t
    (summary places us ts)) (if not (length ts == argument_count m) then refusal_at Y4 at else argument_refusals at m t ts)
    (λ has. else_same (length ts == argument_count m) (refusal_at Y4 at) (summary_argument_refusals at m t (summary places us ts)) (argument_refusals at m t ts)
    (λ same. arguments_are at places us m t ts ((Decides-eqb (length ts) (argument_count m)).0 same)))

-- ---- behind something

given_is : (p : ProgramView) (places : List Place) (us : List ValueType) (name : ℕ) (t : ValueType) (ts : List ValueType) (m : Option BuiltIn)
    → option_and_then (λ (c : BuiltIn). summary_member_type c t (length ts) (summary places us ts)) m ≡ option_and_then (λ (c : BuiltIn). member_type c t ts) m
given_is p places us name t ts None = refl
given_is p places us name t ts (Some m) = member_is places us m t ts

plain_is : (a c : Option ValueType) → a ≡ c → plain a ≡ plain c
plain_is a c e = ap (λ o. let k : ExprTyping = record { type = o; is_call = false } in k) e

-- what is known of a member
pub behind_is : (p : ProgramView) (places : List Place) (t : Option ValueType) (name : ℕ) (o : Option (List ValueType)) (count : ℕ)
    → count ≡ length places → ((ts : List ValueType) → o ≡ Some ts → length places ≡ length ts)
    → summary_member p t name (member_method p t name) count (option_map (summary places (parameter_types (member_method p t name))) o) ≡ member_typing p t name o
behind_is p places None name o count is same = refl
behind_is p places (Some (Class c local)) name None count is same = refl
behind_is p places (Some (Class c local)) name (Some ts) count is same = called_is places (member_method p (Some (Class c local)) name) (Some ts) count is same
behind_is p places (Some t) name None count is same = refl
behind_is p places (Some t) name (Some ts) count is same =
    plain_is (option_and_then (λ (c : BuiltIn). summary_member_type c t count (summary places (parameter_types None) ts)) (built_in p name)) (option_and_then (λ (c : BuiltIn). member_type c t ts) (built_in p name))
    (ap (λ n. option_and_then (λ (c : BuiltIn). summary_member_type c t n (summary places (parameter_types None) ts)) (built_in p name)) (is
    ∙ same ts refl) ∙ given_is p places (parameter_types None) name t ts (built_in p name))

-- what counts of what is wrong with it
pub behind_refusal_is : (p : ProgramView) (at : Place) (places : List Place) (t : Option ValueType) (name : ℕ)
    (o : Option (List ValueType)) (count : ℕ) → count ≡ length places → ((ts : List ValueType) → o ≡ Some ts → length places ≡ length ts)
    → summary_member_refusal p at places t name (member_method p t name) count (option_map (summary places (parameter_types (member_method p t name))) o)
    ≡ earliest (both_judged t o (λ u ts. member_refusals p at places name u ts))
unfolding earliest
behind_refusal_is p at places None name o count is same = refl
behind_refusal_is p at places (Some (Class c local)) name None count is same = refl
behind_refusal_is p at places (Some (Class c local)) name (Some ts) count is same = instance_is at places (member_method p (Some (Class c local)) name) (Some ts) count is same
behind_refusal_is p at places (Some t) name None count is same = refl
behind_refusal_is p at places (Some t) name (Some ts) count is same =
    ap (λ n. earliest (summary_built_in_refusals at (built_in p name) t n (summary places (parameter_types None) ts))) (is ∙ same ts refl)
    ∙ ap earliest (built_in_is at places (parameter_types None) (built_in p name) t ts)

-- ---- ranges

int_as : (t : ValueType) → is_int (erase_dims t) ≡ is_int t
int_as Int = refl
int_as (Pt n) = refl
int_as (Rc n) = refl
int_as (Dm n) = refl
int_as (Grid t n local) = refl
int_as t = refl

ints_as : (ts : List ValueType) → all_ints (map erase_dims ts) ≡ all_ints ts
ints_as [] = refl
ints_as (t ∷ ts) = ap (λ b. b && all_ints (map erase_dims ts)) (int_as t) ∙ ap (λ b. is_int t && b) (ints_as ts)

point_as : (t : ValueType) → same_type (Pt 1) (erase_dims t) ≡ is_point_type t
point_as (Pt n) = refl
point_as (Rc n) = refl
point_as (Dm n) = refl
point_as (Grid t n local) = refl
point_as t = refl

points_as : (ts : List ValueType) → all_points 1 (map erase_dims ts) ≡ list_all is_point_type ts
points_as [] = refl
points_as (t ∷ ts) = ap (λ b. b && all_points 1 (map erase_dims ts)) (point_as t)
    ∙ ap (λ b. is_point_type t && b) (points_as ts)

some_where : {A : Type 0} (b : Bool) (a : A) → is_some (where_true b a) ≡ b
some_where true a = refl
some_where false a = refl

near_points : (t : ValueType) (ts : List ValueType)
    → list_all is_point_type (t ∷ ts) ≡ is_some (range_of_points (map erase_dims (t ∷ ts)))
near_points (Pt n) ts = sym (some_where (all_points 1 (map erase_dims ts)) (Rc 1) ∙ points_as ts)
near_points (Rc n) ts = refl
near_points (Dm n) ts = refl
near_points (Grid t n local) ts = refl
near_points t ts = refl

near_is : (places : List Place) (us : List ValueType) (n : ℕ) (ts : List ValueType)
    → summary_fits_other_dims n (summary places us ts)
    ≡ is_some (rect_literal n (map erase_dims ts))
near_is places us n [] = refl
near_is places us n (t ∷ ts) =
    by (all_ints (t ∷ ts)) (n == 1) (range_of_points (map erase_dims (t ∷ ts)))
    (list_all is_point_type (t ∷ ts)) (near_points t ts)
    ∙ sym (ap
    (λ c. is_some (if c then Some (Rc n) else if n == 1 then range_of_points
    (map erase_dims (t ∷ ts)) else None))
    (ints_as (t ∷ ts)))
  where
    by : (b c : Bool) (o : Option ValueType) (k : Bool) → k ≡ is_some o
        → (if b then true else if c then k else false)
        ≡ is_some (if b then Some (Rc n) else if c then o else None)
    by true c o k e = refl
    by false true o k e = e
    by false false o k e = refl

-- the literal that ranges are
pub literal_is : (places : List Place) (us : List ValueType) (n : ℕ) (o : Option (List ValueType))
    → option_map (summary_literal n) (option_map (summary places us) o) ≡ option_map (literal n) o
literal_is places us n None = refl
literal_is places us n (Some ts) = ap Some
    (λ j. record { type = rect_literal n ts; fits_other_dims = near_is places us n ts j })

-- its type
pub rect_is : (places : List Place) (us : List ValueType) (n : ℕ) (o : Option (List ValueType))
    → option_and_then (summary_rect_type n) (option_map (summary places us) o)
    ≡ option_and_then (rect_literal n) o
rect_is places us n None = refl
rect_is places us n (Some ts) = refl

-- what is wrong with it
pub rect_refusal_is : (at : Place) (places : List Place) (us : List ValueType) (n : ℕ)
    (o : Option (List ValueType))
    → judged (option_map (summary places us) o)
    (λ (told : OperandSummary). operand_refusal at (is_some (summary_rect_type n told))
    (summary_fits_other_dims n told))
    ≡ judged o (λ ts. operand_refusal at (is_some (rect_literal n ts))
    (is_some (rect_literal n (map erase_dims ts))))
rect_refusal_is at places us n None = refl
rect_refusal_is at places us n (Some ts) = ap (operand_refusal at (is_some (rect_literal n ts)))
    (near_is places us n ts)
