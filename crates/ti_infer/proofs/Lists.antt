-- Lists of refusals, and parts of a program that are equal in every marked program.
use Rattle.std.proofs.Common.{◌≡◌, ℕ, Bool, true, false, ◌||◌, List, [], ◌∷◌, ◌++◌, map, flat_map, Option, refl, ap, ap₂, sym, ◌∙◌}
use Rattle.ti_base.specs.declared.place.Place.{Place}
use Rattle.ti_lang.specs.Program.Expressions.{NumberedExp}
use Rattle.ti_lang.specs.Program.Expressions as e
use Rattle.ti_lang.specs.Program.Statements.{NumberedStm, numbered_stms}
use Rattle.ti_lang.specs.Program.Statements as st
use Rattle.ti_lang.specs.Program.Classes.{ProgramView}
use Rattle.ti_lang.specs.Typing.Effects.{is_collective, is_collective_call}
use Rattle.ti_rules.specs.declared.rule.Rule.{Rule}
use Rattle.ti_rules.specs.declared.refusal.Refusal.{Refusal}
use Rattle.ti_rules.specs.Refusals.{refused_if}
use Rattle.ti_rules.specs.StmtInContext.{StmtInContext}
use Rattle.ti_rules.specs.SingleRules.{standing_single_refusals}
use Rattle.ti_blame.specs.Marks.{Marks}
use Rattle.ti_infer.specs.Marked.{marked_exp, marked_stm, marked_stms, marked}
use Rattle.ti_infer.proofs.Same.{language_same}

pub refused_none : (b : Bool) (rule : Rule) (at : Place) → refused_if b rule at ≡ [] → b ≡ false
refused_none true rule at h = cc
refused_none false rule at h = refl

pub none_refused : (b : Bool) (rule : Rule) (at : Place) → b ≡ false → refused_if b rule at ≡ []
none_refused b rule at h = rw h refl

pub none_both : {A : Type 0} → (xs ys : List A) → xs ++ ys ≡ [] → (xs ≡ []) × (ys ≡ [])
none_both [] ys h = (refl, h)
none_both (x ∷ xs) ys h = absurd (by h)
  where
    by : x ∷ (xs ++ ys) ≡ [] → ⊥
    by e = cc

pub both_none : {A : Type 0} → (xs ys : List A) → xs ≡ [] → ys ≡ [] → xs ++ ys ≡ []
both_none xs ys h k = ap₂ (λ a b. a ++ b) h k

pub stms_of_map : (i : ℕ → Bool) (d : Place → Bool) (xs : List NumberedStm) → numbered_stms (map (marked_stm i d) xs) ≡ marked_stms i d (numbered_stms xs)
stms_of_map i d [] = refl
stms_of_map i d (x ∷ xs) = ap (st.Cons (marked_stm i d x)) (stms_of_map i d xs)

pub or_same : (a : Bool) → a ≡ (a || a)
or_same true = refl
or_same false = refl

pub flat_append : {A B : Type 0} (f : A → List B) (xs ys : List A) → flat_map f (xs ++ ys) ≡ flat_map f xs ++ flat_map f ys
flat_append f [] ys = refl
flat_append f (x ∷ xs) ys = ap (λ zs. f x ++ zs) (flat_append f xs ys) ∙ assoc (f x) (flat_map f xs) (flat_map f ys)
  where
    assoc : {B : Type 0} (a b d : List B) → a ++ (b ++ d) ≡ (a ++ b) ++ d
    assoc [] b d = refl
    assoc (z ∷ a) b d = ap (λ w. z ∷ w) (assoc a b d)

-- what is wrong with statements where they stand
abbrev pub wrong : ProgramView → List StmtInContext → List Refusal
wrong p xs = flat_map (standing_single_refusals p) xs

pub wrong_both : (p : ProgramView) (xs ys : List StmtInContext) → wrong p (xs ++ ys) ≡ [] → (wrong p xs ≡ []) × (wrong p ys ≡ [])
wrong_both p xs ys h = none_both _ _ (sym (flat_append (standing_single_refusals p) xs ys) ∙ h)

pub both_wrong : (p : ProgramView) (xs ys : List StmtInContext) → wrong p xs ≡ [] → wrong p ys ≡ [] → wrong p (xs ++ ys) ≡ []
both_wrong p xs ys h k = flat_append (standing_single_refusals p) xs ys ∙ both_none _ _ h k

module _ (p : ProgramView) (this : Option ℕ) (marks : Marks) (i : ℕ → Bool) where
  pub collective_same : (x : NumberedExp) → is_collective_call (marked marks p) this (marked_exp i x) ≡ is_collective_call p this x
  collective_same (e.Member at a name args) = ap is_collective (language_same marks p this i a name)
  collective_same _ = refl
