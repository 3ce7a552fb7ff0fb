-- Decidable tests for the canonical form of points, ranges, rectangles and the arguments of views.
use Rattle.std.specs.Prelude.{ℕ, ◌*◌, ◌/◌, ◌==◌, nat_lt, nat_le, pos, ◌+ℤ◌, ◌-ℤ◌, Bool, true, not, ◌&&◌, ◌||◌, length, bytes_eq}
use Rattle.ti_base.specs.declared.point.Point.{Point}
use Rattle.ti_base.specs.declared.point.Rect.{Rect}
use Rattle.ti_base.specs.declared.action.ViewHow.{ViewHow}
use Rattle.ti_base.specs.declared.action.ViewHow.TheVariants.{Restrict, Translate, Slice}
use Rattle.ti_base.specs.PointSets.{same_number, same_point}
use Rattle.ti_base.specs.Ranges.{Range, natural}
use Rattle.ti_base.specs.Rects.{empty_rect, first_range, second_range, third_range}

-- a number of dimensions: one to three
abbrev pub is_dim : ℕ → Bool
is_dim dim = nat_le 1 dim && nat_le dim 3

-- a canonical point
abbrev pub is_point : Point → Bool
is_point p = is_dim p.dim && ((not (nat_lt p.dim 2) || same_number p.x2 (pos 0)) && (not (nat_lt p.dim 3) || same_number p.x3 (pos 0)))

-- ---- ranges

-- the number of steps from the low end to the high end
abbrev pub steps_in : Range → ℕ
steps_in r = natural (r.high -ℤ r.low) / r.step

-- a canonical range
abbrev pub is_range : Range → Bool
is_range r = nat_lt 0 r.step && (same_number r.high (r.low +ℤ pos (steps_in r * r.step)) && (not (steps_in r == 0) || r.step == 1))

-- ---- rectangles

-- whether two rectangles are equal in dimension, ends and steps
abbrev pub same_rect : Rect → Rect → Bool
same_rect r s = r.dim == s.dim && (same_point r.lo s.lo && (same_point r.hi s.hi && bytes_eq r.step s.step))

-- whether the ends are canonical points of the rectangle's dimension, and there are three steps
abbrev pub ends_fit : Rect → Bool
ends_fit r = is_point r.lo && (r.lo.dim == r.dim && (is_point r.hi && (r.hi.dim == r.dim && length r.step == 3)))

-- whether the range of each coordinate is canonical
abbrev pub ranges_fit : Rect → Bool
ranges_fit r = is_range (first_range r) && (is_range (second_range r) && is_range (third_range r))

-- a canonical rectangle that isn't empty
abbrev pub has_points : Rect → Bool
has_points r = ends_fit r && ranges_fit r

-- a canonical rectangle
abbrev pub is_rect : Rect → Bool
is_rect r = is_dim r.dim && (same_rect r (empty_rect r.dim) || has_points r)

-- ---- views

-- a canonical argument of a view
abbrev pub is_view : ViewHow → Bool
is_view (Restrict r) = is_rect r
is_view (Translate by) = is_point by
is_view (Slice k j) = true
