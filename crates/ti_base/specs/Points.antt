-- Points: one to three integer coordinates; unused ones are 0.
use Rattle.std.specs.Prelude.{◌≡◌, ℕ, ◌<◌, ◌≤◌, ◌⊎◌, pos, ◌+ℤ◌, ◌-ℤ◌, ◌≤ℤ◌, ◌<ℤ◌}
use Rattle.std.specs.Int.{w32}
use Rattle.ti_base.specs.declared.point.Point.{Point}
use Rattle.ti_base.specs.WholeNumbers.{Fits, sum, difference}

abbrev pub IsDim : ℕ → Type 0
IsDim dim = (1 ≤ dim) × (dim ≤ 3)

-- a canonical point: unused coordinates are 0
pub record IsPoint (p : Point) : Type 0 where
  pub dim : IsDim p.dim
  pub second : p.dim < 2 → p.x2 ≡ pos 0
  pub third : p.dim < 3 → p.x3 ≡ pos 0

-- a proposition for each coordinate that is used
abbrev pub InEach : ℕ → Type 0 → Type 0 → Type 0 → Type 0
InEach dim first second third = first × (2 ≤ dim → second) × (3 ≤ dim → third)

-- ---- order

-- less in each coordinate
abbrev pub pt_lt : Point → Point → Type 0
pt_lt p q = InEach p.dim (p.x1 <ℤ q.x1) (p.x2 <ℤ q.x2) (p.x3 <ℤ q.x3)

-- at most as large in each coordinate
abbrev pub pt_le : Point → Point → Type 0
pt_le p q = InEach p.dim (p.x1 ≤ℤ q.x1) (p.x2 ≤ℤ q.x2) (p.x3 ≤ℤ q.x3)

-- lexicographic order: less in the first coordinate in which the two differ
abbrev pub pt_lex_lt : Point → Point → Type 0
pt_lex_lt p q = (p.x1 <ℤ q.x1) ⊎ ((p.x1 ≡ q.x1) × ((p.x2 <ℤ q.x2) ⊎ ((p.x2 ≡ q.x2) × (p.x3 <ℤ q.x3))))

-- ---- arithmetic

-- the sum by coordinate, wrapping
abbrev pub pt_sum : Point → Point → Point
pt_sum p q = record { dim = p.dim; x1 = sum w32 p.x1 q.x1; x2 = sum w32 p.x2 q.x2; x3 = sum w32 p.x3 q.x3 }

-- the difference by coordinate, wrapping
abbrev pub pt_difference : Point → Point → Point
pt_difference p q = record { dim = p.dim; x1 = difference w32 p.x1 q.x1; x2 = difference w32 p.x2 q.x2; x3 = difference w32 p.x3 q.x3 }

-- p shifted by q, without wrapping
abbrev pub translate_point : Point → Point → Point
translate_point p q = record { dim = p.dim; x1 = p.x1 +ℤ q.x1; x2 = p.x2 +ℤ q.x2; x3 = p.x3 +ℤ q.x3 }

-- p shifted by the negative of q, without wrapping
abbrev pub moved_back : Point → Point → Point
moved_back p q = record { dim = p.dim; x1 = p.x1 -ℤ q.x1; x2 = p.x2 -ℤ q.x2; x3 = p.x3 -ℤ q.x3 }

-- the coordinates fit in 32 bits
abbrev pub HasCoordinates : Point → Type 0
HasCoordinates p = Fits w32 p.x1 × Fits w32 p.x2 × Fits w32 p.x3
