-- Rectangular domains: a range in each coordinate.
use Rattle.std.specs.Prelude.{◌≡◌, ℕ, ◌-◌, ◌*◌, ◌≤◌, ◌<ℤ◌, ◌⊎◌, Bool, ◌&&◌, ◌||◌, ◌==◌, nat_le, if◌then◌else◌, pos, List, [], ◌∷◌, map, flat_map, length, slice_index}
use Rattle.ti_base.specs.declared.point.Point.{Point}
use Rattle.ti_base.specs.declared.point.Rect.{Rect}
use Rattle.ti_base.specs.Points.{IsDim, IsPoint, HasCoordinates, translate_point}
use Rattle.ti_base.specs.Ranges.{Range, natural, IsOn, is_on, count_on, numbers_on, IsRange, is_empty_range, unused_range, tidy, meet_ranges, shift_range}

-- ---- the ranges of the three coordinates

abbrev pub first_range : Rect → Range
first_range r = record { low = r.lo.x1; high = r.hi.x1; step = slice_index r.step 0 }

abbrev pub second_range : Rect → Range
second_range r = record { low = r.lo.x2; high = r.hi.x2; step = slice_index r.step 1 }

abbrev pub third_range : Rect → Range
third_range r = record { low = r.lo.x3; high = r.hi.x3; step = slice_index r.step 2 }

-- ---- the points of a rectangle

-- each coordinate of the point is on its range
pub record IsWithin (dim : ℕ) (a b c : Range) (p : Point) : Type 0 where
  pub one_dim : p.dim ≡ dim
  pub first : IsOn a p.x1
  pub second : IsOn b p.x2
  pub third : IsOn c p.x3

-- the point is in the rectangle
abbrev pub IsIn : Rect → Point → Type 0
IsIn r p = IsWithin r.dim (first_range r) (second_range r) (third_range r) p

-- the decidable test of IsIn
abbrev pub is_in : Rect → Point → Bool
is_in r p = p.dim == r.dim && is_on (first_range r) p.x1 && is_on (second_range r) p.x2 && is_on (third_range r) p.x3

-- the points in lexicographic order
abbrev pub points_of : Rect → List Point
points_of r =
    flat_map (λ x. flat_map (λ y. map (λ z. record { dim = r.dim; x1 = x; x2 = y; x3 = z }) (numbers_on (third_range r)))
    (numbers_on (second_range r))) (numbers_on (first_range r))

-- the number of points
abbrev pub size_of : Rect → ℕ
size_of r = count_on (first_range r) * count_on (second_range r) * count_on (third_range r)

-- ---- canonical form

-- the empty rectangle
abbrev pub empty_rect : ℕ → Rect
empty_rect dim = record {
  dim = dim;
  lo = record { dim = dim; x1 = pos 1; x2 = if nat_le 2 dim then pos 1 else pos 0; x3 = if nat_le 3 dim then pos 1 else pos 0 };
  hi = record { dim = dim; x1 = pos 0; x2 = pos 0; x3 = pos 0 };
  step = 1 ∷ 1 ∷ 1 ∷ [];
}

-- a canonical rectangle that isn't empty
pub record HasPoints (r : Rect) : Type 0 where
  pub low : IsPoint r.lo
  pub low_dim : r.lo.dim ≡ r.dim
  pub high : IsPoint r.hi
  pub high_dim : r.hi.dim ≡ r.dim
  pub steps : length r.step ≡ 3
  pub first : IsRange (first_range r)
  pub second : IsRange (second_range r)
  pub third : IsRange (third_range r)

abbrev pub IsRect : Rect → Type 0
IsRect r = IsDim r.dim × ((r ≡ empty_rect r.dim) ⊎ HasPoints r)

abbrev pub is_empty : Rect → Bool
is_empty r = is_empty_range (first_range r) || is_empty_range (second_range r) || is_empty_range (third_range r)

-- the rectangle of three ranges
abbrev pub of_ranges : ℕ → Range → Range → Range → Rect
of_ranges dim a b c =
    if is_empty_range a || is_empty_range b || is_empty_range c
    then empty_rect dim
    else record {
      dim = dim;
      lo = record { dim = dim; x1 = a.low; x2 = b.low; x3 = c.low };
      hi = record { dim = dim; x1 = a.high; x2 = b.high; x3 = c.high };
      step = a.step ∷ b.step ∷ c.step ∷ [];
    }

-- ---- rectangles by bounds and steps

-- a used step is below 1
abbrev pub HasBadStride : Point → Type 0
HasBadStride step = (step.x1 <ℤ pos 1) ⊎ ((2 ≤ step.dim) × (step.x2 <ℤ pos 1)) ⊎ ((3 ≤ step.dim) × (step.x3 <ℤ pos 1))

-- the point is from lo to hi, by steps in each coordinate; in unused coordinates all are 0
abbrev pub IsSpanned : Point → Point → Point → Point → Type 0
IsSpanned lo hi step p =
    IsWithin lo.dim (record { low = lo.x1; high = hi.x1; step = natural step.x1 })
    (record { low = lo.x2; high = hi.x2; step = natural step.x2 })
    (record { low = lo.x3; high = hi.x3; step = natural step.x3 }) p

-- some point of the rectangle, shifted, doesn't fit in 32 bits
abbrev pub LeavesRange : Rect → Point → Type 0
LeavesRange r by = (p : Point) × IsIn r p × (HasCoordinates (translate_point p by) → ⊥)

-- ---- operations on rectangles

-- the canonical range of coordinate k, or the one for unused coordinates
abbrev pub used_range : ℕ → ℕ → Range → Range
used_range dim k r = if nat_le k dim then tidy r else unused_range

-- the rectangle from lo to hi, by steps in each coordinate
abbrev pub spanned_rect : Point → Point → Point → Rect
spanned_rect lo hi step =
    of_ranges lo.dim
    (tidy (record { low = lo.x1; high = hi.x1; step = natural step.x1 }))
    (used_range lo.dim 2 (record { low = lo.x2; high = hi.x2; step = natural step.x2 }))
    (used_range lo.dim 3 (record { low = lo.x3; high = hi.x3; step = natural step.x3 }))

-- the intersection
abbrev pub meet : Rect → Rect → Rect
meet r s =
    of_ranges r.dim (meet_ranges (first_range r) (first_range s)) (meet_ranges (second_range r) (second_range s)) (meet_ranges (third_range r) (third_range s))

-- the rectangle shifted by p
abbrev pub translate_rect : Rect → Point → Rect
translate_rect r p =
    if is_empty r then r else of_ranges r.dim (shift_range p.x1 (first_range r)) (shift_range p.x2 (second_range r)) (shift_range p.x3 (third_range r))

-- the rectangle without coordinate k, counted from 1
abbrev pub without : ℕ → Rect → Rect
without k r =
    if k == 1 then of_ranges (r.dim - 1) (second_range r) (third_range r) unused_range
    else if k == 2 then of_ranges (r.dim - 1) (first_range r) (third_range r) unused_range
    else of_ranges (r.dim - 1) (first_range r) (second_range r) unused_range
