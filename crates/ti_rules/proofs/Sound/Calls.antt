-- A call that breaks no rule has a type.
use Rattle.std.proofs.Common.{◌≡◌, ℕ, suc, ◌==◌, Bool, true, false, not, ◌&&◌, ◌||◌, if◌then◌else◌, List, [], ◌∷◌, length, map, Option, Some, None, is_some, option_and_then, refl, sym, ap, subst, ◌∙◌, ◌-◌, nat_lt, true≢false, arith}
use Rattle.std.proofs.lemmas.Bool.Decides.{Decides-eqb}
use Rattle.ti_base.specs.declared.place.Place.{Place}
use Rattle.ti_lang.specs.Program.Types.{ValueType, Int, Long, Boolean, Pt, Rc, Dm, Region, Class, Grid, Null, Void}
use Rattle.ti_lang.specs.Program.Classes.{NumberedParam, NumberedParams, MainArgs, Params, NumberedMethod, ProgramView}
use Rattle.ti_lang.specs.Typing.Kinds.{where_true, same_type, same_truth, is_local}
use Rattle.ti_lang.specs.Typing.Fits.{fits}
use Rattle.ti_lang.specs.Typing.BuiltIn.{BuiltIn, Slice, Copy, Exchange, built_in, same_grids, can_copy, can_exchange, member_type}
use Rattle.ti_lang.specs.Typing.Declared.{instance_method, result_type, types_of}
use Rattle.ti_lang.specs.Typing.Expressions.{all_fit, is_int, takes, call_type, member_given}
use Rattle.ti_rules.specs.declared.rule.Rule.{Rule}
use Rattle.ti_rules.specs.declared.rule.Rule.TheVariants.{Y1, Y4, Y5, Q2, Q3}
use Rattle.ti_rules.specs.declared.refusal.Refusal.{Refusal}
use Rattle.ti_rules.specs.Refusals.{refused_if}
use Rattle.ti_lang.specs.Typing.Alike.{erase_dims, as_local}
use Rattle.ti_rules.specs.Broken.Refused.{refusal_at, operand_refusal, misfit}
use Rattle.ti_rules.specs.Broken.Calls.{has_member, argument_count, misfits, first_misfit, params_refusals, call_refusals, instance_refusals, copy_refusals, exchange_refusals, slice_refusals, argument_refusals, built_in_refusals, member_refusals}
use Rattle.ti_rules.specs.Known.{IsThere}
use Rattle.ti_rules.proofs.Sound.Refused.{nil_left, nil_right, not_refused, not_mistaken, no_misfit, there_is, where_there, and_left, and_right}

-- ---- declared methods

fit_all : (places : List Place) (ts us : List ValueType) → length places ≡ length ts → length ts ≡ length us → misfits places ts us ≡ [] → all_fit ts us ≡ true
fit_all places [] [] same count e = refl
fit_all places [] (u ∷ us) same count e = absurd (omega (arith, count))
fit_all places (t ∷ ts) [] same count e = absurd (omega (arith, count))
fit_all [] (t ∷ ts) (u ∷ us) same count e = absurd (omega (arith, same))
fit_all (at ∷ places) (t ∷ ts) (u ∷ us) same count e =
    let first = no_misfit at t u (nil_left (misfit at t u) (misfits places ts us) e) in
    let rest = fit_all places ts us (omega (arith, same)) (omega (arith, count)) (nil_right (misfit at t u) (misfits places ts us) e) in
    ap (λ b. b && all_fit ts us) first ∙ rest

equal_counts : (n m : ℕ) → n == m ≡ true → n ≡ m
equal_counts n m e = (Decides-eqb n m).0 e

test_of : (b : Bool) (xs : List Refusal) (rule : Rule) (at : Place) → (if b then xs else refusal_at rule at) ≡ [] → b ≡ true
test_of true xs rule at e = refl
test_of false xs rule at e = cc

then_of : (b : Bool) (xs : List Refusal) (rule : Rule) (at : Place) → (if b then xs else refusal_at rule at) ≡ [] → xs ≡ []
then_of true xs rule at e = e
then_of false xs rule at e = cc

no_words : (places : List Place) (n : ℕ) → length places ≡ n → n ≡ 1 → first_misfit places ≡ [] → ⊥
no_words [] n same one e = omega (arith, same, one)
no_words (at ∷ places) n same one e = cc

pub takes_all : (at : Place) (places : List Place) (params : NumberedParams) (ts : List ValueType) → length places ≡ length ts → params_refusals at places params ts ≡ [] → takes params ts ≡ true
takes_all at places MainArgs ts same e =
    absurd (no_words places (length ts) same (equal_counts (length ts) 1 (test_of (length ts == 1) (first_misfit places) Y4 at e)) (then_of (length ts == 1) (first_misfit places) Y4 at e))
takes_all at places (Params types) ts same e =
    let count : length ts ≡ length types = equal_counts (length ts) (length types) (test_of (length ts == length types) (misfits places ts (types_of types)) Y4 at e) in
    fit_all places ts (types_of types) same (count ∙ sym (listed types)) (then_of (length ts == length types) (misfits places ts (types_of types)) Y4 at e)
  where
    listed : (types : List NumberedParam) → length (types_of types) ≡ length types
    listed [] = refl
    listed (t ∷ rest) = ap suc (listed rest)

pub call_there : (at : Place) (places : List Place) (m : Option NumberedMethod) (ts : List ValueType) → IsThere m → length places
    ≡ length ts → call_refusals at places m ts ≡ [] → IsThere (call_type m ts)
call_there at places None ts there same e = cc there.1
call_there at places (Some m) ts there same e = where_there (takes m.params ts) (result_type m) (takes_all at places m.params ts same e)

instance_there : (at : Place) (places : List Place) (m : Option NumberedMethod) (ts : List ValueType) → length places ≡ length ts → instance_refusals at places m ts ≡ [] → IsThere (call_type m ts)
instance_there at places None ts same e = cc
instance_there at places (Some m) ts same e = where_there (takes m.params ts) (result_type m) (takes_all at places m.params ts same e)

-- ---- members that the language gives

unflip : (b : Bool) → not b ≡ false → b ≡ true
unflip true e = refl
unflip false e = cc

copy_there : (at : Place) (t : ValueType) (ts : List ValueType) → length ts ≡ 1 → copy_refusals at t ts ≡ [] → IsThere (member_type Copy t ts)
copy_there at t [] count e = absurd (omega (arith, count))
copy_there at t (u ∷ v ∷ ts) count e = absurd (omega (arith, count))
copy_there at t (u ∷ []) count e = by (same_grids t u) (can_copy t u) e
  where
    by : (a b : Bool) → (if a then refused_if (not b) Q2 at else operand_refusal at false (same_grids (erase_dims t) (erase_dims u))) ≡ [] → IsThere (where_true (a && b) Void)
    by true b e = where_there b Void (unflip b (not_refused (not b) Q2 at e))
    by false b e = absurd (true≢false (sym (not_mistaken at false (same_grids (erase_dims t) (erase_dims u)) e)))

-- what fits as a global reference
global_too : (b local : Bool) → (((b && same_truth true false) || false) || (true && (b && same_truth false false))) || (false && true) ≡ true
    → (((b && same_truth local false) || false) || (true && (b && same_truth false false))) || (false && true) ≡ true
global_too true true e = refl
global_too true false e = refl
global_too false local e = e

-- as a local reference a value fits what is no local reference only where it does as it is
not_local : (t u : ValueType) → is_local t ≡ false → fits (as_local u) t ≡ true → fits u t ≡ true
not_local t Int global e = e
not_local t Long global e = e
not_local t Boolean global e = e
not_local t (Pt n) global e = e
not_local t (Rc n) global e = e
not_local t (Dm n) global e = e
not_local t Region global e = e
not_local t Null global e = e
not_local t Void global e = e
not_local (Class d true) (Class c local) global e = cc
not_local (Class d false) (Class c local) global e = global_too (c == d) local e
not_local (Grid v m true) (Grid u n local) global e = cc
not_local (Grid v m false) (Grid u n local) global e = global_too (same_type u v && (n == m)) local e
not_local t (Class c local) global e = cc
not_local t (Grid u n local) global e = cc

exchange_there : (at : Place) (t : ValueType) (ts : List ValueType) → has_member Exchange t ≡ true → length ts ≡ 1 → exchange_refusals at t ts ≡ [] → IsThere (member_type Exchange t ts)
exchange_there at t [] has count e = absurd (omega (arith, count))
exchange_there at t (u ∷ v ∷ ts) has count e = absurd (omega (arith, count))
exchange_there at (Grid v n local) (u ∷ []) has count e =
    let mistake = operand_refusal at (((n == 1) && fits u v) || ((n == 1) && fits (as_local u) v)) (can_exchange (erase_dims (Grid v n local)) (erase_dims u)) in
    let global = not_refused (is_local v) Q3 at (nil_right mistake (refused_if (is_local v) Q3 at) e) in
    let taken = not_mistaken at (((n == 1) && fits u v) || ((n == 1) && fits (as_local u) v))
    (can_exchange (erase_dims (Grid v n local)) (erase_dims u)) (nil_left mistake (refused_if (is_local v) Q3 at) e) in
    where_there (((n == 1) && fits u v) && not (is_local v)) Void (by (n == 1) (fits u v) (fits (as_local u) v) (is_local v) global (not_local v u global) taken)
  where
    by : (a b c d : Bool) → d ≡ false → (c ≡ true → b ≡ true) → (a && b) || (a && c) ≡ true → (a && b) && not d ≡ true
    by true true c true g f e = cc
    by true true c false g f e = refl
    by true false true d g f e = absurd (true≢false (sym (f refl)))
    by true false false d g f e = cc
    by false b c d g f e = cc
exchange_there at t (u ∷ []) has count e = cc

int_is : (t : ValueType) → is_int t ≡ true → t ≡ Int
int_is Int e = refl
int_is t e = cc

slice_there : (at : Place) (t : ValueType) (ts : List ValueType) → has_member Slice t ≡ true → length ts ≡ 2 → slice_refusals at t ts ≡ [] → IsThere (member_type Slice t ts)
slice_there at (Grid t n local) [] has count e = absurd (omega (arith, count))
slice_there at (Grid t n local) (u ∷ []) has count e = absurd (omega (arith, count))
slice_there at (Grid t n local) (u ∷ v ∷ w ∷ ts) has count e = absurd (omega (arith, count))
slice_there at (Grid t n local) (u ∷ v ∷ []) has count e = by (nat_lt 1 n) refl e
  where
    by : (b : Bool) → nat_lt 1 n ≡ b → (if b then operand_refusal at (is_int u && (is_int v && true)) false else refusal_at Y5 at) ≡ [] → IsThere (member_type Slice (Grid t n local) (u ∷ v ∷ []))
    by false is e = cc
    by true is e =
        let ints = not_mistaken at (is_int u && (is_int v && true)) false e in
        let first = int_is u (and_left (is_int u) (is_int v && true) ints) in
        let second = int_is v (and_left (is_int v) true (and_right (is_int u) (is_int v && true) ints)) in
        let there : IsThere (member_type Slice (Grid t n local) (Int ∷ Int ∷ [])) = where_there (nat_lt 1 n) (Grid t (n - 1) local) is in
        subst (λ a. IsThere (member_type Slice (Grid t n local) (a ∷ v ∷ []))) (sym first) (subst (λ b. IsThere (member_type Slice (Grid t n local) (Int ∷ b ∷ []))) (sym second) there)
slice_there at t ts has count e = cc

unless_of : (b : Bool) (xs : List Refusal) (rule : Rule) (at : Place) → (if not b then refusal_at rule at else xs) ≡ [] → b ≡ true
unless_of true xs rule at e = refl
unless_of false xs rule at e = cc

else_of : (b : Bool) (xs : List Refusal) (rule : Rule) (at : Place) → (if not b then refusal_at rule at else xs) ≡ [] → xs ≡ []
else_of true xs rule at e = e
else_of false xs rule at e = cc

arguments_there : (at : Place) (b : BuiltIn) (t : ValueType) (ts : List ValueType) → has_member b t ≡ true → length ts ≡ argument_count b → argument_refusals at b t ts ≡ [] → IsThere (member_type b t ts)
arguments_there at Slice t ts has count e = slice_there at t ts has count e
arguments_there at Copy t ts has count e = copy_there at t ts count e
arguments_there at Exchange t ts has count e = exchange_there at t ts has count e
arguments_there at b t ts has count e = there_is (member_type b t ts) (not_mistaken at (is_some (member_type b t ts)) (is_some (member_type b (erase_dims t) (map erase_dims ts))) e)

built_in_there : (at : Place) (b : Option BuiltIn) (t : ValueType) (ts : List ValueType) → built_in_refusals at b t ts ≡ [] → IsThere (option_and_then (λ (b : BuiltIn). member_type b t ts) b)
built_in_there at None t ts e = cc
built_in_there at (Some b) t ts e =
    let rest = if not (length ts == argument_count b) then refusal_at Y4 at else argument_refusals at b t ts in
    let others = else_of (has_member b t) rest Y1 at e in
    arguments_there at b t ts (unless_of (has_member b t) rest Y1 at e)
    (equal_counts (length ts) (argument_count b) (unless_of (length ts == argument_count b) (argument_refusals at b t ts) Y4 at others))
    (else_of (length ts == argument_count b) (argument_refusals at b t ts) Y4 at others)

pub member_there : (p : ProgramView) (at : Place) (places : List Place) (name : ℕ) (t : ValueType) (ts : List ValueType) → length places ≡ length ts → member_refusals p at places name t ts ≡ []
    → IsThere (member_given p t name ts).type
member_there p at places name (Class c local) ts same e = instance_there at places (instance_method p c name) ts same e
member_there p at places name t ts same e = built_in_there at (built_in p name) t ts e
