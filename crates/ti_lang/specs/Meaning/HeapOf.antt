-- The heap as a function of the history: the objects, grids and views that its entries created, and the contents of their cells.
use Rattle.std.specs.Prelude.{◌≡◌, ◌⊎◌, ℕ, ◌+◌, Bool, false, ◌&&◌, if◌then◌else◌, List, [], ◌∷◌, map, length, sum_by, slice_get, Option, Some, None}
use Rattle.std.specs.List.{flat_map}
use Rattle.std.specs.Option.{option_map, option_and_then, option_map_or}
use Rattle.ti_base.specs.declared.value.Id.{Id}
use Rattle.ti_base.specs.declared.value.Value.{Value}
use Rattle.ti_base.specs.declared.value.Value.TheVariants as v
use Rattle.ti_base.specs.declared.value.Zero.{Zero}
use Rattle.ti_base.specs.declared.action.Action.{Action}
use Rattle.ti_base.specs.declared.action.Action.TheVariants as act
use Rattle.ti_base.specs.declared.entry.Answer.{Answer}
use Rattle.ti_base.specs.declared.entry.Answer.TheVariants.{Val}
use Rattle.ti_base.specs.declared.entry.Entry.{Entry}
use Rattle.ti_base.specs.Rects.{points_of, size_of}
use Rattle.ti_base.specs.Cells.{Cell, Field, Element, same_id, same_cell, zero_value, Grid, cell_of, whole_grid, view}
use Rattle.ti_lang.specs.Program.Classes.{ProgramView}
use Rattle.ti_lang.specs.Meaning.Zeros.{zeros_of_class}
use Rattle.ti_lang.specs.Meaning.Histories.{History, is_making, entries_of, things_made}
use Rattle.ti_lang.specs.Meaning.RegionsOf.{is_gone}

-- ---- names of objects and grids

-- the name of the next object or grid that process i creates: its creator and sequence number, owner and region
abbrev pub new_id : ℕ → ℕ → History → Id
new_id i region h = record { maker = i; serial = things_made i h; owner = i; region = region }

-- the name of the next view that process i creates: it has the owner and the region of the grid that it views
abbrev pub view_id : ℕ → Id → History → Id
view_id i viewed h = record { maker = i; serial = things_made i h; owner = viewed.owner; region = viewed.region }

-- the answer is a reference to this object
abbrev pub is_object : Id → Answer → Bool
is_object id (Val (v.Obj (Some made))) = same_id id made
is_object id answer = false

-- the answer is a reference to this grid
abbrev pub is_grid : Id → Answer → Bool
is_grid id (Val (v.Grid (Some made))) = same_id id made
is_grid id answer = false

-- the object, grid or view that an action with this answer created; None if it created none
abbrev pub made_by : Action → Answer → Option Id
made_by a (Val (v.Obj id)) = if is_making a then id else None
made_by a (Val (v.Grid id)) = if is_making a then id else None
made_by a answer = None

-- an entry of the history created this object, grid or view
abbrev pub IsMade : Id → History → Type 0
IsMade id [] = ⊥
IsMade id (e ∷ earlier) = (made_by e.act e.answer ≡ Some id) ⊎ IsMade id earlier

-- ---- objects

-- the class of the object that an action creates; None if it creates none
abbrev pub class_made : Action → Option ℕ
class_made (act.NewObj class region) = Some class
class_made a = None

-- the class of an object, by the entry that created it; None if there is none
abbrev pub class_of_object : Id → History → Option ℕ
class_of_object obj [] = None
class_of_object obj (e ∷ earlier) = if is_making e.act && is_object obj e.answer then class_made e.act else class_of_object obj earlier

-- the zeros of the fields of an object
abbrev pub zeros_of : ProgramView → Id → History → Option (List Zero)
zeros_of program obj h = option_and_then (zeros_of_class program) (class_of_object obj h)

-- ---- grids

-- the grid that an action creates: a new grid has a block of its own; a view shares the block of an earlier grid
abbrev pub grid_made : Id → Action → (Id → Option Grid) → Option Grid
grid_made id (act.NewGrid zero domain region) earlier = Some (whole_grid id zero domain)
grid_made id (act.MakeView viewed how) earlier = option_map (view how) (earlier viewed)
grid_made id a earlier = None

-- the grid of a name, which maps points to cells, by the entry that created it; None if there is none
abbrev pub grid_of_id : Id → History → Option Grid
grid_of_id id [] = None
grid_of_id id (e ∷ earlier) =
    if is_making e.act && is_grid id e.answer then grid_made id e.act (λ viewed. grid_of_id viewed earlier) else grid_of_id id earlier

-- ---- cells

-- the cells of an object, from a field on
abbrev pub field_cells : Id → ℕ → List Zero → List Cell
field_cells obj field [] = []
field_cells obj field (zero ∷ zeros) = Field obj field ∷ field_cells obj (field + 1) zeros

-- the cells that an action allocates: those of an object or of a new grid; a view has none of its own
abbrev pub cells_made : ProgramView → Action → Answer → List Cell
cells_made program (act.NewObj class region) (Val (v.Obj (Some id))) = option_map_or (field_cells id 0) (zeros_of_class program class) []
cells_made program (act.NewGrid zero domain region) (Val (v.Grid (Some id))) = map (Element id) (points_of domain)
cells_made program a answer = []

-- all cells of the run; quantification over cells ranges over these
abbrev pub cells_of : ProgramView → History → List Cell
cells_of program h = flat_map (λ (e : Entry). cells_made program e.act e.answer) h

-- the cell that an action writes, and the value
abbrev pub written_by : Action → History → Option (Cell × Value)
written_by (act.PutField obj field value) h = Some (Field obj field, value)
written_by (act.PutElem grid at value) h = option_map (λ (g : Grid). (cell_of g at, value)) (grid_of_id grid h)
written_by a h = None

-- the value written, if it was to this cell
abbrev pub written_to : Cell → Option (Cell × Value) → Option Value
written_to cell None = None
written_to cell (Some (other, value)) = if same_cell cell other then Some value else None

-- the first option if it isn't empty, and otherwise the second
abbrev pub or_else : {A : Type 0} → Option A → Option A → Option A
or_else None b = b
or_else (Some a) b = Some a

-- the value last written to a cell; None if nothing was
abbrev pub last_written : Cell → History → Option Value
last_written cell [] = None
last_written cell (e ∷ earlier) = or_else (written_to cell (written_by e.act earlier)) (last_written cell earlier)

-- the zero of a cell; None if its object or grid doesn't exist
abbrev pub zero_of : ProgramView → Cell → History → Option Value
zero_of program (Field obj field) h = option_and_then (λ zeros. option_map zero_value (slice_get zeros field)) (zeros_of program obj h)
zero_of program (Element block at) h = option_map (λ (g : Grid). zero_value g.zero) (grid_of_id block h)

-- the contents of a cell: the value last written to it, or else its zero; None if there is no such cell
abbrev pub cell_value : ProgramView → Cell → History → Option Value
cell_value program cell h = option_map (λ zero. option_map_or (λ value. value) (last_written cell h) zero) (zero_of program cell h)

-- ---- cost

-- the cells that an action is charged: 1 for an object and each of its fields, 1 for a new grid and each element, 1 for a view
abbrev pub cost_of_making : ProgramView → Action → ℕ
cost_of_making program (act.NewObj class region) = 1 + option_map_or (λ zeros. length zeros) (zeros_of_class program class) 0
cost_of_making program (act.NewGrid zero domain region) = 1 + size_of domain
cost_of_making program (act.MakeView grid how) = 1
cost_of_making program a = 0

-- the region of the object or grid in an answer; 0 if there is none
abbrev pub region_made_in : Answer → ℕ
region_made_in (Val (v.Obj (Some id))) = id.region
region_made_in (Val (v.Grid (Some id))) = id.region
region_made_in answer = 0

-- the cells that process i is charged: those of all that it created outside of deleted regions
abbrev pub cost_of : ProgramView → ℕ → History → ℕ
cost_of program i h =
    sum_by (λ (e : Entry). if is_gone (region_made_in e.answer) h then 0 else cost_of_making program e.act) (entries_of i h)

-- the greatest number of cells that a process may be charged
abbrev pub most_cells : ℕ
most_cells = 1048576
