-- Rectangles seen by one coordinate.
use Rattle.std.specs.Prelude.{◌≡◌, ℤ, [], ◌∷◌, slice_index}
use Rattle.ti_base.specs.declared.point.Point.{Point}
use Rattle.ti_base.specs.declared.point.Rect.{Rect}
use Rattle.ti_base.specs.Ranges.{Range, IsOn}
use Rattle.ti_base.specs.Rects.{first_range, second_range, third_range}
use Rattle.ti_domain.specs.declared.cut.Coordinate.{Coordinate}
use Rattle.ti_domain.specs.declared.cut.Coordinate.TheVariants.{First, Second, Third}

abbrev pub coordinate_of : Coordinate → Point → ℤ
coordinate_of First p = p.x1
coordinate_of Second p = p.x2
coordinate_of Third p = p.x3

abbrev pub range_at : Coordinate → Rect → Range
range_at First r = first_range r
range_at Second r = second_range r
range_at Third r = third_range r

-- all coordinates of the point except this one are on the rectangle's ranges
abbrev pub IsBeside : Coordinate → Rect → Point → Type 0
IsBeside First r p = (p.dim ≡ r.dim) × IsOn (second_range r) p.x2 × IsOn (third_range r) p.x3
IsBeside Second r p = (p.dim ≡ r.dim) × IsOn (first_range r) p.x1 × IsOn (third_range r) p.x3
IsBeside Third r p = (p.dim ≡ r.dim) × IsOn (first_range r) p.x1 × IsOn (second_range r) p.x2

-- the rectangle with another range in this coordinate
abbrev pub with_range : Coordinate → Range → Rect → Rect
with_range First g r = record {
  dim = r.dim;
  lo = record r.lo { x1 = g.low };
  hi = record r.hi { x1 = g.high };
  step = g.step ∷ slice_index r.step 1 ∷ slice_index r.step 2 ∷ [];
}
with_range Second g r = record {
  dim = r.dim;
  lo = record r.lo { x2 = g.low };
  hi = record r.hi { x2 = g.high };
  step = slice_index r.step 0 ∷ g.step ∷ slice_index r.step 2 ∷ [];
}
with_range Third g r = record {
  dim = r.dim;
  lo = record r.lo { x3 = g.low };
  hi = record r.hi { x3 = g.high };
  step = slice_index r.step 0 ∷ slice_index r.step 1 ∷ g.step ∷ [];
}
