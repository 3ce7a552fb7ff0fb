-- Equality of two lists element by element, by a relation of elements.
use Rattle.std.specs.Prelude.{List, [], ◌∷◌}

-- the lists have equal lengths, and their elements at each index are related
abbrev pub AreSame : {A : Type 0} → (A → A → Type 0) → List A → List A → Type 0
AreSame same [] [] = Unit {0}
AreSame same (x ∷ xs) (y ∷ ys) = same x y × AreSame same xs ys
AreSame same [] (y ∷ ys) = ⊥
AreSame same (x ∷ xs) [] = ⊥
