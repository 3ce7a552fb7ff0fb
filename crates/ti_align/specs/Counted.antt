-- That `cells_of` lists all cells of a run, so that what is stated of all listed cells holds of each of these.
use Rattle.std.specs.Prelude.{◌≡◌, ℕ, true, Contains, Some}
use Rattle.ti_base.specs.declared.point.Point.{Point}
use Rattle.ti_base.specs.declared.value.Id.{Id}
use Rattle.ti_base.specs.declared.value.Value.{Value}
use Rattle.ti_base.specs.Rects.{is_in}
use Rattle.ti_base.specs.Cells.{Cell, Field, Grid, cell_of}
use Rattle.ti_lang.specs.Program.Classes.{ProgramView}
use Rattle.ti_lang.specs.Meaning.Histories.{History}
use Rattle.ti_lang.specs.Meaning.HeapOf.{grid_of_id, cells_of, last_written, cell_value}

-- The list has each cell that was written, each field that has a value, and each element at a point of a grid's domain.
pub record CellsCounted (p : ProgramView) (h : History) : Type 0 where
  pub written : (cell : Cell) (value : Value) → last_written cell h ≡ Some value → Contains (cells_of p h) cell
  pub fields : (obj : Id) (field : ℕ) (value : Value) → cell_value p (Field obj field) h ≡ Some value
      → Contains (cells_of p h) (Field obj field)
  pub elements : (id : Id) (g : Grid) (at : Point) → grid_of_id id h ≡ Some g → is_in g.domain at ≡ true
      → Contains (cells_of p h) (cell_of g at)
