-- Lists of rectangles that represent domains.
use Rattle.std.specs.Prelude.{◌≡◌, ℕ, List, [], ◌∷◌, All, length, sum_by}
use Rattle.ti_base.specs.declared.point.Point.{Point}
use Rattle.ti_base.specs.declared.point.Rect.{Rect}
use Rattle.ti_base.specs.PointSets.{union}
use Rattle.ti_base.specs.Rects.{IsRect, HasPoints, IsIn, points_of}
use Rattle.ti_rect.specs.Families.{IsInOne, AreApart, Covers}

-- a rectangle of this dimension, in canonical form
pub record IsShape (dim : ℕ) (r : Rect) : Type 0 where
  pub one_dim : r.dim ≡ dim
  pub form : IsRect r

-- a rectangle of this dimension that has points
pub record IsNonEmptyRect (dim : ℕ) (r : Rect) : Type 0 where
  pub shape : IsShape dim r
  pub filled : HasPoints r

-- a point is in one of the rectangles
abbrev pub IsInSome : List Rect → Point → Type 0
IsInSome rs p = IsInOne IsIn rs p

-- disjoint rectangles, each with points
pub record ArePieces (dim : ℕ) (rs : List Rect) : Type 0 where
  pub each : All (IsNonEmptyRect dim) rs
  pub apart : AreApart IsIn rs

-- disjoint rectangles, each with points, whose union is this set
abbrev pub ArePiecesOf : ℕ → List Rect → (Point → Type 0) → Type 0
ArePiecesOf dim rs Whole = Covers (IsNonEmptyRect dim) IsIn rs Whole

-- the points of all of them in one sorted list
abbrev pub points_in : List Rect → List Point
points_in [] = []
points_in (r ∷ rs) = union (points_of r) (points_in rs)

abbrev pub point_count : Rect → ℕ
point_count r = length (points_of r)

-- the total number of points of the rectangles
abbrev pub total_count : List Rect → ℕ
total_count rs = sum_by point_count rs
