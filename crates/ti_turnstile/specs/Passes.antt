-- Logs of numbered items, and passes, which have seen prefixes of a log.
use Rattle.std.specs.Prelude.{◌≡◌, ℕ, zero, suc, ◌==◌, List, [], ◌∷◌, ◌++◌, if◌then◌else◌}

module _ {I : Type 0} where
  -- the number of the item with index i
  abbrev pub number_at : List (ℕ × I) → ℕ → ℕ
  number_at [] i = 0
  number_at (e ∷ es) zero = e.0
  number_at (e ∷ es) (suc i) = number_at es i

  -- the items with one number, in order
  abbrev pub items_of : ℕ → List (ℕ × I) → List (ℕ × I)
  items_of k [] = []
  items_of k (e ∷ es) = if e.0 == k then e ∷ items_of k es else items_of k es

  -- all items have this number
  abbrev pub AllNumbered : ℕ → List (ℕ × I) → Type 0
  AllNumbered k [] = Unit {0}
  AllNumbered k (e ∷ es) = (e.0 ≡ k) × AllNumbered k es

  -- the log has grown only by items with this number
  abbrev pub GrownBy : ℕ → List (ℕ × I) → List (ℕ × I) → Type 0
  GrownBy k before after = (rest : List (ℕ × I)) × (after ≡ before ++ rest) × AllNumbered k rest

  -- what was seen is a prefix of the log
  abbrev pub StartsWith : List (ℕ × I) → List (ℕ × I) → Type 0
  StartsWith log seen = (rest : List (ℕ × I)) × (log ≡ seen ++ rest)

  -- what the pass with this number has seen is a prefix of the log, and the log has no other items with this number
  abbrev pub IsLegal : List (ℕ × I) → ℕ → List (ℕ × I) → Type 0
  IsLegal log k seen = StartsWith log seen × (items_of k log ≡ items_of k seen)
