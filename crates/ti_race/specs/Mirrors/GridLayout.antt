-- Mirrors the code, for contracts of private functions: how grids are stored in their blocks.
use Rattle.std.specs.Prelude.{◌≡◌, ◌&&◌, true, false, None, Some, Option}
use Rattle.ti_base.specs.declared.point.Point.{Point}
use Rattle.ti_base.specs.declared.point.Rect.{Rect}
use Rattle.ti_base.specs.declared.action.ViewHow.{ViewHow}
use Rattle.ti_base.specs.Rects.{IsRect, points_of, is_in}
use Rattle.ti_base.specs.Cells.{suits, view_fault}
use Rattle.ti_grid.specs.declared.layout.Layout.{Layout}
use Rattle.ti_grid.specs.Views.{cell_number, place_in, IsSeen}
use Rattle.ti_lang.specs.Meaning.Spots.{Block, no_fault}
use Rattle.ti_race.specs.declared.grid_layout.GridLayout.{GridLayout}

-- the stored grid is that of the specification: the same entry created its block, which has the domain `whole`, and each point of the
-- grid has the cell number of its point in the block
pub record LaysOut (whole : Rect) (l : GridLayout) (b : Block) : Type 0 where
  pub number : l.number ≡ b.number
  pub domain : l.view.dom ≡ b.grid.domain
  pub cells : (p : Point) → is_in b.grid.domain p ≡ true → cell_number l.view p ≡ place_in (points_of whole) (b.grid.place p)

-- the stored view is that of the specification, or both are unknown
abbrev pub LaysOutIf : Rect → Option GridLayout → Option Block → Type 0
LaysOutIf whole None None = Unit {0}
LaysOutIf whole (Some l) (Some b) = LaysOut whole l b
LaysOutIf whole l b = ⊥

-- the view is made if and only if the dimensions match and it is no fault, and is then the right one
abbrev pub SeenIf : ViewHow → Layout → Option Layout → Type 0
SeenIf how old None = (suits how old.dom && no_fault (view_fault how old.dom)) ≡ false
SeenIf how old (Some new) = ((suits how old.dom && no_fault (view_fault how old.dom)) ≡ true) × IsSeen how old new × IsRect old.dom
