-- Views: maps from the points of a domain to the indices of a block's cells.
use Rattle.std.specs.Prelude.{◌≡◌, ◌⊎◌, ℕ, ◌+◌, ◌<◌, ◌≤◌, ℤ, pos, List, [], ◌∷◌, Option, Some, None, IfSome, if◌then◌else◌}
use Rattle.std.specs.Option.{option_map}
use Rattle.ti_base.specs.declared.point.Point.{Point}
use Rattle.ti_base.specs.declared.point.Rect.{Rect}
use Rattle.ti_base.specs.declared.action.ViewHow.{ViewHow}
use Rattle.ti_base.specs.PointSets.{same_point}
use Rattle.ti_base.specs.Rects.{IsRect, IsIn, is_in, points_of}
use Rattle.ti_base.specs.Cells.{view_domain, seen_point}
use Rattle.ti_grid.specs.declared.layout.Layout.{Layout}
use Rattle.ti_grid.specs.Mirrors.Numbers.{cell_index}

-- the cell index of a point, if the view has the point
abbrev pub cell_number : Layout → Point → Option ℕ
cell_number v p = if is_in v.dom p then Some (cell_index v p) else None

-- different points have different cells
abbrev pub DifferInCells : Layout → Type 0
DifferInCells v = (p q : Point) (i : ℕ) → cell_number v p ≡ Some i → cell_number v q ≡ Some i → p ≡ q

-- each cell index is below n
abbrev pub NumbersBelow : ℕ → Layout → Type 0
NumbersBelow n v = (p : Point) → IfSome (cell_number v p) (λ i. i < n)

-- the index of a point in a list, counted from 0
abbrev pub place_in : List Point → Point → Option ℕ
place_in [] p = None
place_in (q ∷ qs) p = if same_point p q then Some 0 else option_map (λ n. n + 1) (place_in qs p)

-- the view of a whole block: the index of a point's cell is the point's index in the sorted list of the domain's points
abbrev pub IsWhole : Layout → Type 0
IsWhole v = (p : Point) → cell_number v p ≡ place_in (points_of v.dom) p

-- the cell index of a point in a view of a view: that of the corresponding point of the viewed one
abbrev pub seen_number : ViewHow → Layout → Point → Option ℕ
seen_number how v p = if is_in (view_domain how v.dom) p then cell_number v (seen_point how p) else None

-- a view of a view has the same block, and shares its cells
pub record IsSeen (how : ViewHow) (old new : Layout) : Type 0 where
  pub block : new.block ≡ old.block
  pub domain : new.dom ≡ view_domain how old.dom
  pub cells : (p : Point) → cell_number new p ≡ seen_number how old p
  pub below : (n : ℕ) → NumbersBelow n old → NumbersBelow n new

-- coordinate k of the point, counted from 1, is j
abbrev pub HasCoordinate : ℤ → ℤ → Point → Type 0
HasCoordinate k j p = ((k ≡ pos 1) × (p.x1 ≡ j)) ⊎ (((k ≡ pos 2) × (2 ≤ p.dim) × (p.x2 ≡ j)) ⊎ ((k ≡ pos 3) × (3 ≤ p.dim) × (p.x3 ≡ j)))

-- some point of the rectangle has j as coordinate k
abbrev pub SomeHas : Rect → ℤ → ℤ → Type 0
SomeHas r k j = (p : Point) × IsIn r p × HasCoordinate k j p

-- the invariant of a view: the cell indices are below 1,048,576, and different points have different cells
pub record IsLaid (v : Layout) : Type 0 where
  pub form : IsRect v.dom
  pub below : (p : Point) → IsIn v.dom p → cell_index v p < 1048576
  pub apart : (p q : Point) → IsIn v.dom p → IsIn v.dom q → cell_index v p ≡ cell_index v q → p ≡ q
