-- What breaks no rule has a type: lists of refusals that are empty, and what then is there.
use Rattle.std.proofs.Common.{◌≡◌, Bool, true, false, not, ◌&&◌, if◌then◌else◌, List, [], ◌∷◌, ◌++◌, flat_map, Option, Some, None, is_some, option_and_then, refl, sym, ap, ◌∙◌, true≢false}
use Rattle.ti_base.specs.declared.place.Place.{Place}
use Rattle.ti_lang.specs.Program.Types.{ValueType}
use Rattle.ti_lang.specs.Typing.Kinds.{where_true, is_void}
use Rattle.ti_lang.specs.Typing.Fits.{fits}
use Rattle.ti_lang.specs.Typing.Expressions.{ExprTyping, operand, and_then_both, append_both, one}
use Rattle.ti_rules.specs.declared.rule.Rule.{Rule}
use Rattle.ti_rules.specs.declared.rule.Rule.TheVariants.{Y2, Y5, Y6, Q1}
use Rattle.ti_rules.specs.declared.refusal.Refusal.{Refusal}
use Rattle.ti_rules.specs.Refusals.{refused_if}
use Rattle.ti_lang.specs.Typing.Alike.{erase_dims, as_local}
use Rattle.ti_rules.specs.Broken.Refused.{refusal_at, judged, both_judged, operand_refusal, misfit}
use Rattle.ti_rules.specs.Broken.Misplaced.{misplaced_at}
use Rattle.ti_rules.specs.Known.{IsThere}

-- ---- lists

pub nil_left : {A : Type 0} (xs ys : List A) → xs ++ ys ≡ [] → xs ≡ []
nil_left [] ys e = refl
nil_left (x ∷ xs) ys e = cc

pub nil_right : {A : Type 0} (xs ys : List A) → xs ++ ys ≡ [] → ys ≡ []
nil_right [] ys e = e
nil_right (x ∷ xs) ys e = cc

pub each_left : {A : Type 0} (f : A → List Refusal) (xs ys : List A) → flat_map f (xs ++ ys) ≡ [] → flat_map f xs ≡ []
each_left f [] ys e = refl
each_left f (x ∷ xs) ys e =
    let own = nil_left (f x) (flat_map f (xs ++ ys)) e in
    let others = each_left f xs ys (nil_right (f x) (flat_map f (xs ++ ys)) e) in
    ap (λ l. l ++ flat_map f xs) own ∙ others

pub each_right : {A : Type 0} (f : A → List Refusal) (xs ys : List A) → flat_map f (xs ++ ys) ≡ [] → flat_map f ys ≡ []
each_right f [] ys e = e
each_right f (x ∷ xs) ys e = each_right f xs ys (nil_right (f x) (flat_map f (xs ++ ys)) e)

-- an expression behind its parts
pub node_alone : {A : Type 0} (f : A → List Refusal) (xs : List A) (x : A) → flat_map f (xs ++ x ∷ []) ≡ [] → f x ≡ []
node_alone f xs x e = nil_left (f x) [] (each_right f xs (x ∷ []) e)

-- ---- tests

pub not_refused : (b : Bool) (rule : Rule) (at : Place) → refused_if b rule at ≡ [] → b ≡ false
not_refused true rule at e = cc
not_refused false rule at e = refl

pub not_mistaken : (at : Place) (taken otherwise : Bool) → operand_refusal at taken otherwise ≡ [] → taken ≡ true
not_mistaken at true otherwise e = refl
not_mistaken at false otherwise e = cc

pub no_misfit : (at : Place) (t u : ValueType) → misfit at t u ≡ [] → fits t u ≡ true
no_misfit at t u e = by (fits t u) refl
  where
    by : (b : Bool) → fits t u ≡ b → fits t u ≡ true
    by true is = is
    by false is = absurd (some (if fits (erase_dims t) (erase_dims u) then Y5 else if fits (as_local t) u then Q1 else Y2)
        (sym (ap (λ b. if b then [] else refusal_at (if fits (erase_dims t) (erase_dims u) then Y5 else if fits (as_local t) u then Q1 else Y2) at)
        is) ∙ e))
      where
        some : (rule : Rule) → refusal_at rule at ≡ [] → ⊥
        some rule e = cc

pub there_is : {A : Type 0} (o : Option A) → is_some o ≡ true → IsThere o
there_is None e = cc
there_is (Some a) e = (a, refl)

pub where_there : {A : Type 0} (b : Bool) (a : A) → b ≡ true → IsThere (where_true b a)
where_there true a e = (a, refl)
where_there false a e = cc

pub and_left : (a b : Bool) → a && b ≡ true → a ≡ true
and_left true b e = refl
and_left false b e = e

pub and_right : (a b : Bool) → a && b ≡ true → b ≡ true
and_right true b e = e
and_right false b e = cc

-- ---- operands

pub judged_there : {A B : Type 0} (o : Option A) (rule : A → List Refusal) (give : A → Option B) → IsThere o → judged o rule ≡ [] → ((a : A) → rule a ≡ [] → IsThere (give a))
    → IsThere (option_and_then give o)
judged_there None rule give there e gives = cc there.1
judged_there (Some a) rule give there e gives = gives a e

pub both_there : {A B C : Type 0} (o : Option A) (q : Option B) (rule : A → B → List Refusal) (give : A → B → Option C) → IsThere o → IsThere q → both_judged o q rule ≡ []
    → ((a : A) (b : B) → rule a b ≡ [] → IsThere (give a b)) → IsThere (and_then_both o q give)
both_there None q rule give there other e gives = cc there.1
both_there (Some a) None rule give there other e gives = cc other.1
both_there (Some a) (Some b) rule give there other e gives = gives a b e

-- what stands inside another expression and can stand there has a type there
operand_is : (type : Option ValueType) (is_call : Bool) (at : Place) → IsThere type
    → misplaced_at at (record { type = type; is_call = is_call }) ≡ [] → IsThere (operand (record { type = type; is_call = is_call }))
operand_is None is_call at there e = cc there.1
operand_is (Some t) true at there e = cc
operand_is (Some t) false at there e = by (is_void t) refl
  where
    by : (b : Bool) → is_void t ≡ b → IsThere (if not (is_void t) then Some t else None)
    by true is = absurd (true≢false (sym is ∙ not_refused (is_void t) Y6 at e))
    by false is = (t, ap (λ b. if not b then Some t else None) is)

pub operand_there : (k : ExprTyping) (at : Place) → IsThere k.type → misplaced_at at k ≡ [] → IsThere (operand k)
operand_there k at there e = operand_is k.type k.is_call at there e

pub one_there : {A : Type 0} (o : Option A) → IsThere o → IsThere (one o)
one_there None there = cc there.1
one_there (Some a) there = (a ∷ [], refl)

pub joined_there : {A : Type 0} (o q : Option (List A)) → IsThere o → IsThere q → IsThere (append_both o q)
joined_there None q there other = cc there.1
joined_there (Some xs) None there other = cc other.1
joined_there (Some xs) (Some ys) there other = (xs ++ ys, refl)
