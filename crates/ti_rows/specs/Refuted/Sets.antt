-- Numbers, points, lists of points and rectangles for which theorems about sets are false.
use Rattle.std.specs.Prelude.{ℤ, pos, List, [], ◌∷◌}
use Rattle.ti_base.specs.declared.point.Point.{Point}
use Rattle.ti_base.specs.declared.point.Rect.{Rect}
use Rattle.ti_base.specs.Ranges.{Range}

-- ---- points

-- a point of one dimension
abbrev pub on_line : ℤ → Point
on_line x = record { dim = 1; x1 = x; x2 = pos 0; x3 = pos 0 }

-- a point of one dimension that has a second coordinate
abbrev pub two_coordinates : Point
two_coordinates = record { dim = 1; x1 = pos 0; x2 = pos 3; x3 = pos 0 }

-- three points in increasing order
abbrev pub rising_points : List Point
rising_points = on_line (pos 0) ∷ on_line (pos 1) ∷ on_line (pos 2) ∷ []

-- the same points in decreasing order
abbrev pub falling_points : List Point
falling_points = on_line (pos 2) ∷ on_line (pos 1) ∷ on_line (pos 0) ∷ []

-- only the second of them
abbrev pub middle : List Point
middle = on_line (pos 1) ∷ []

-- ---- ranges and rectangles

-- from 0 in steps of 2, to at most this number
abbrev pub twos_to : ℤ → Range
twos_to high = record { low = pos 0; high = high; step = 2 }

-- from 0 to 4
abbrev pub all_to_four : Range
all_to_four = record { low = pos 0; high = pos 4; step = 1 }

-- the one-dimensional points of a range
abbrev pub line_rect : Range → Rect
line_rect r = record { dim = 1; lo = on_line r.low; hi = on_line r.high; step = r.step ∷ 1 ∷ 1 ∷ [] }

-- the points 0, 2 and 4
abbrev pub evens : Rect
evens = line_rect (twos_to (pos 4))

-- the points 0, 2 and 4, with an upper end that is none of them
abbrev pub loose : Rect
loose = line_rect (twos_to (pos 5))

-- the points 0, 1, 2, 3 and 4
abbrev pub all : Rect
all = line_rect all_to_four
