-- Points and rectangular domains from the values in their literals.
use Rattle.std.specs.Prelude.{ℤ, pos, int_le, Bool, ◌==◌, ◌&&◌, if◌then◌else◌, List, [], ◌∷◌, ◌++◌, take, map, length, slice_index_or}
use Rattle.std.specs.List.{list_all}
use Rattle.ti_base.specs.declared.place.Place.{Place}
use Rattle.ti_base.specs.declared.point.Point.{Point}
use Rattle.ti_base.specs.declared.point.Rect.{Rect}
use Rattle.ti_base.specs.declared.value.Value.TheVariants as v
use Rattle.ti_base.specs.declared.fault.FaultKind.TheVariants.{BadStride}
use Rattle.ti_base.specs.Rects.{spanned_rect, empty_rect}
use Rattle.ti_base.specs.Forms.{is_dim}
use Rattle.ti_lang.specs.Meaning.Held.{Held, Plain, int_of, zero_point}
use Rattle.ti_lang.specs.Meaning.Comp.{Comp, guard}

-- the coordinates of a point that are in use
abbrev pub coordinates_of : Point → List ℤ
coordinates_of p = take p.dim (p.x1 ∷ p.x2 ∷ p.x3 ∷ [])

-- the coordinates of a point, or a number as a single coordinate
abbrev pub numbers_in : Held → List ℤ
numbers_in (Plain (v.Pt p)) = coordinates_of p
numbers_in h = int_of h ∷ []

-- the point of one to three coordinates; for another number of them, which doesn't occur in a program that breaks no rule, a zero
abbrev pub point_of_numbers : List ℤ → Point
point_of_numbers xs =
    if is_dim (length xs)
    then record { dim = length xs; x1 = slice_index_or xs 0 (pos 0); x2 = slice_index_or xs 1 (pos 0); x3 = slice_index_or xs 2 (pos 0) }
    else zero_point 1

-- the bounds of a rectangular domain: lowest point, highest point and stride, coordinate by coordinate
pub record Bounds : Type 0 where
  pub low : List ℤ
  pub high : List ℤ
  pub step : List ℤ

-- the bounds of no coordinate
abbrev pub no_bounds : Bounds
no_bounds = record { low = []; high = []; step = [] }

-- the coordinates of the first bounds, then those of the second
abbrev pub append_bounds : Bounds → Bounds → Bounds
append_bounds a b = record { low = a.low ++ b.low; high = a.high ++ b.high; step = a.step ++ b.step }

-- the bounds of `low:high`, with stride 1
abbrev pub plain_bounds : Held → Held → Bounds
plain_bounds low high = record { low = numbers_in low; high = numbers_in high; step = map (λ x. pos 1) (numbers_in low) }

-- the bounds of `low:high:step`
abbrev pub stepped_bounds : Held → Held → Held → Bounds
stepped_bounds low high step = record { low = numbers_in low; high = numbers_in high; step = numbers_in step }

-- low, high and step have the same number of coordinates, one to three
abbrev pub is_even : Bounds → Bool
is_even b = is_dim (length b.low) && length b.high == length b.low && length b.step == length b.low

-- the rectangular domain within the bounds; if these aren't even, which doesn't occur in a program that breaks no rule, an empty one
abbrev pub rect_of_bounds : Bounds → Rect
rect_of_bounds b = if is_even b then spanned_rect (point_of_numbers b.low) (point_of_numbers b.high) (point_of_numbers b.step) else empty_rect 1

-- the rectangular domain within the bounds, or a fault if a stride is below 1
abbrev pub rect_within : Place → Bounds → Comp Held
rect_within at b =
    guard (list_all (int_le (pos 1)) b.step) BadStride at (Plain (v.Rc (rect_of_bounds b)))
