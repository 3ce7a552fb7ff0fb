-- The difference of two ranges.
use Rattle.std.specs.Prelude.{◌⊎◌, ℕ, ◌*◌, ◌<◌, ◌≤◌, ℤ, pos, ◌+ℤ◌, ◌<ℤ◌, List, [], ◌∷◌, ◌++◌, if◌then◌else◌}
use Rattle.ti_base.specs.Ranges.{Range, IsOn, IsRange, is_empty_range}
use Rattle.ti_rect.specs.declared.axis.Axis.{Axis}
use Rattle.ti_rect.specs.Axes.{range}
use Rattle.ti_rect.specs.Families.{Covers}

-- a number is on the first range and not on the second
abbrev pub IsOff : Range → Range → ℤ → Type 0
IsOff a c x = IsOn a x × (IsOn c x → ⊥)

-- a number is on the range, and between two others
abbrev pub IsBetween : Range → ℤ → ℤ → ℤ → Type 0
IsBetween a from to x = IsOn a x × (from <ℤ x) × (x <ℤ to)

-- the numbers that are i steps of the first range above one of the second, up to the second's end
abbrev pub residue_of : Range → Range → ℕ → Range
residue_of a c i = record { low = c.low +ℤ pos (i * a.step); high = c.high; step = c.step }

-- a number of the first range that isn't on the second, and is below x
abbrev pub IsOffBelow : Range → Range → ℤ → ℤ → Type 0
IsOffBelow a c x y = IsOff a c y × (y <ℤ x)

-- a number of the first range that is below or above the second, or on one of its residues with an index below j
abbrev pub IsOffResidues : Range → Range → ℕ → ℤ → Type 0
IsOffResidues a c j x =
    (IsOn a x × (x <ℤ c.low)) ⊎ (IsOn a x × (c.high <ℤ x)) ⊎ ((i : ℕ) × (1 ≤ i) × (i < j) × IsOn (residue_of a c i) x)

-- a range that has numbers
abbrev pub IsPart : Axis → Type 0
IsPart a = IsRange (range a)

abbrev pub IsOnPart : Axis → ℤ → Type 0
IsOnPart a x = IsOn (range a) x

-- disjoint ranges whose union is this set of numbers
abbrev pub AreParts : List Axis → (ℤ → Type 0) → Type 0
AreParts parts Whole = Covers IsPart IsOnPart parts Whole

-- the ranges, with one appended if it has a number
abbrev pub with_part : List Axis → Axis → List Axis
with_part parts a = if is_empty_range (range a) then parts else parts ++ a ∷ []
