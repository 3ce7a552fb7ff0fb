-- Lists of disjoint sets, and their union.
use Rattle.std.specs.Prelude.{◌⊎◌, ◌↔◌, List, [], ◌∷◌, All}

-- x is in one of these sets
abbrev pub IsInOne : {A X : Type 0} → (A → X → Type 0) → List A → X → Type 0
IsInOne In [] x = ⊥
IsInOne In (a ∷ rest) x = In a x ⊎ IsInOne In rest x

-- the sets are pairwise disjoint
abbrev pub AreApart : {A X : Type 0} → (A → X → Type 0) → List A → Type 0
AreApart In [] = Unit {0}
AreApart {A} {X} In (a ∷ rest) = ((x : X) → In a x → IsInOne In rest x → ⊥) × AreApart In rest

-- these sets, each of which is good, are disjoint, and their union is the whole
pub record Covers {A X : Type 0} (Good : A → Type 0) (In : A → X → Type 0) (parts : List A) (Whole : X → Type 0) : Type 0 where
  pub good : All Good parts
  pub apart : AreApart In parts
  pub has : (x : X) → IsInOne In parts x ↔ Whole x
