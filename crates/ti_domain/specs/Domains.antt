-- Domains: what contracts see of them, and their invariant.
use Rattle.std.specs.Prelude.{ℕ, ◌≤◌, List, [], ◌∷◌, if◌then◌else◌, length}
use Rattle.ti_base.specs.declared.point.Point.{Point}
use Rattle.ti_base.specs.declared.point.Rect.{Rect}
use Rattle.ti_base.specs.Points.{IsDim, IsPoint}
use Rattle.ti_base.specs.PointSets.{IsAmong, IsDomain}
use Rattle.ti_base.specs.Rects.{is_empty}
use Rattle.ti_domain.specs.Pieces.{ArePieces, points_in}

-- a domain: its dimension, and its points in a sorted list; the pieces are what `dom_pieces` returns, and nothing else depends on them
pub record Domain : Type 0 where
  pub dim : ℕ
  pub points : List Point
  pub pieces : List Rect

-- canonical points of the dimension in a strictly increasing list, at most 1,048,576
pub record IsDom (d : Domain) : Type 0 where
  pub dim : IsDim d.dim
  pub domain : IsDomain d.dim d.points
  pub form : (p : Point) → IsAmong d.points p → IsPoint p
  pub bound : length d.points ≤ 1048576

-- the invariant of the representation: disjoint rectangles with at most 1,048,576 points in all
pub record IsKept (dim : ℕ) (pieces : List Rect) : Type 0 where
  pub dim_is : IsDim dim
  pub pieces_are : ArePieces dim pieces
  pub bound : length (points_in pieces) ≤ 1048576

-- the rectangle in a list, or the empty list if it has no points
abbrev pub one_piece : Rect → List Rect
one_piece r = if is_empty r then [] else r ∷ []
