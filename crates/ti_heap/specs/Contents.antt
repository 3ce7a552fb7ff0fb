-- What contracts see of a heap: finite maps from names to values and grids.
use Rattle.std.specs.Prelude.{◌≡◌, ◌⊎◌, ◌↔◌, ℕ, ◌+◌, IsSome, Bool, ◌&&◌, ◌==◌, nat_lt, if◌then◌else◌, List, [], ◌∷◌, ◌++◌, map, length, sum_by, slice_get, Option, Some, None, Result, Ok, Err}
use Rattle.std.specs.Option.{option_map, option_and_then}
use Rattle.ti_base.specs.declared.point.Point.{Point}
use Rattle.ti_base.specs.declared.point.Rect.{Rect}
use Rattle.ti_base.specs.declared.value.Id.{Id}
use Rattle.ti_base.specs.declared.value.Value.{Value}
use Rattle.ti_base.specs.declared.action.ViewHow.{ViewHow}
use Rattle.ti_base.specs.declared.fault.FaultKind.{FaultKind}
use Rattle.ti_base.specs.declared.fault.FaultKind.TheVariants.{Bounds, HeapFull}
use Rattle.ti_base.specs.Rects.{is_in, points_of}
use Rattle.ti_base.specs.Cells.{same_id, view_domain, seen_point, view_fault}
use Rattle.ti_grid.specs.Views.{place_in}
use Rattle.ti_heap.specs.declared.error.HeapErr.{HeapErr}
use Rattle.ti_heap.specs.declared.error.HeapErr.TheVariants.{Faulted, Memory}

-- ---- the maps

-- a cell: a field of an object by its index, or an element of a block by the index of its point in the sorted list of the block's points
pub record CellIndex : Type 0 where
  pub thing : Id
  pub number : ℕ

abbrev pub cell_at : Id → ℕ → CellIndex
cell_at thing number = record { thing = thing; number = number }

abbrev pub same_cell : CellIndex → CellIndex → Bool
same_cell a b = same_id a.thing b.thing && a.number == b.number

-- a grid: its domain, and the cell of each of its points
pub record GridMap : Type 0 where
  pub domain : Rect
  pub cell : Point → Option CellIndex

-- what a process made, as its region and its cost; what was in a dropped region is in none and costs nothing
pub record Made : Type 0 where
  pub region : ℕ
  pub cost : ℕ

-- a heap: the number of processes, the value of each cell, the grids, and what each process made, in the order of making
pub record Contents : Type 0 where
  pub procs : ℕ
  pub held : CellIndex → Option Value
  pub grid : Id → Option GridMap
  pub made : ℕ → List Made

-- the cost of what a process made
abbrev pub cost_of : ℕ → Contents → ℕ
cost_of p s = sum_by (λ (m : Made). m.cost) (s.made p)

-- ---- the effects of calls

-- an empty heap
abbrev pub empty_contents : ℕ → Contents
empty_contents procs = record { procs = procs; held = λ _. None; grid = λ _. None; made = λ _. [] }

-- one cell has another value
abbrev pub with_cell_value : CellIndex → Value → Contents → Contents
with_cell_value cell v s = record s { held = λ other. if same_cell other cell then Some v else s.held other }

-- an object, grid or view is made, with these values in its cells; it costs 1, and 1 for each cell
abbrev pub with_thing : Id → List Value → Option GridMap → Contents → Contents
with_thing id values grid s = record s {
  held = λ cell. if same_id cell.thing id then slice_get values cell.number else s.held cell;
  grid = λ other. if same_id other id then grid else s.grid other;
  made = λ p. if p == id.maker then s.made p ++ record { region = id.region; cost = 1 + length values } ∷ [] else s.made p;
}

-- what was in the dropped region is in no region and costs nothing
abbrev pub dropped_made : ℕ → Made → Made
dropped_made region m = if m.region == region then record { region = 0; cost = 0 } else m

-- what is in a region is dropped
abbrev pub without_region : ℕ → Contents → Contents
without_region region s = record s {
  held = λ cell. if cell.thing.region == region then None else s.held cell;
  grid = λ id. if id.region == region then None else s.grid id;
  made = λ p. map (dropped_made region) (s.made p);
}

-- ---- names

-- the name of the next object or grid that a process makes in its own memory
abbrev pub own_id : ℕ → ℕ → Contents → Id
own_id p region s = record { maker = p; serial = length (s.made p); owner = p; region = region }

-- the name of the next view that a process makes: it has the owner and the region of the viewed grid
abbrev pub view_id : ℕ → Id → Contents → Id
view_id p viewed s = record { maker = p; serial = length (s.made p); owner = viewed.owner; region = viewed.region }

-- ---- grids

-- a new grid: the cell of a point has the point's index in the sorted list of the domain's points
abbrev pub whole_map : Id → Rect → GridMap
whole_map id domain = record { domain = domain; cell = λ p. option_map (cell_at id) (place_in (points_of domain) p) }

-- a view of a grid shares its cells
abbrev pub seen_map : ViewHow → GridMap → GridMap
seen_map how g = record {
  domain = view_domain how g.domain;
  cell = λ p. if is_in (view_domain how g.domain) p then g.cell (seen_point how p) else None;
}

-- the cell of a point of a grid, if there is one
abbrev pub grid_cell : Id → Point → Contents → Option CellIndex
grid_cell grid p s = option_and_then (λ (g : GridMap). g.cell p) (s.grid grid)

-- what is read through a cell; `Bounds` if there is none
abbrev pub ReadsCell : Contents → Option CellIndex → Result Value FaultKind → Type 0
ReadsCell s None r = r ≡ Err Bounds
ReadsCell s (Some cell) r = (v : Value) × (s.held cell ≡ Some v) × (r ≡ Ok v)

-- what is written through a cell; `Bounds` and no change if there is none
abbrev pub WritesCell : Contents → Option CellIndex → Value → Result (Unit {0}) FaultKind → Contents → Type 0
WritesCell s None v r after = (r ≡ Err Bounds) × (after ≡ s)
WritesCell s (Some cell) v r after = (r ≡ Ok tt) × (after ≡ with_cell_value cell v s)

-- ---- the cells of a region

abbrev pub IsAmong : List CellIndex → CellIndex → Type 0
IsAmong [] c = ⊥
IsAmong (d ∷ ds) c = (c ≡ d) ⊎ IsAmong ds c

-- no cell occurs twice in the list
abbrev pub AreDistinctCells : List CellIndex → Type 0
AreDistinctCells [] = Unit {0}
AreDistinctCells (c ∷ cs) = (IsAmong cs c → ⊥) × AreDistinctCells cs

-- the values of the cells of a region, each cell once
pub record ListsCells (s : Contents) (region : ℕ) (values : List Value) : Type 0 where
  pub cells : List CellIndex
  pub once : AreDistinctCells cells
  pub has : (c : CellIndex) → IsAmong cells c ↔ ((c.thing.region ≡ region) × IsSome (s.held c))
  pub values_are : map s.held cells ≡ map Some values

-- ---- faults

-- the fault of making something with the given number of cells: `HeapFull` if the cost would exceed 1,048,576
abbrev pub new_fault : ℕ → ℕ → Contents → Option FaultKind
new_fault p cells s = if nat_lt 1048576 (cost_of p s + (1 + cells)) then Some HeapFull else None

-- the first of two faults
abbrev pub first_fault : Option FaultKind → Option FaultKind → Option FaultKind
first_fault None second = second
first_fault (Some kind) second = Some kind

-- the fault of a view, which precedes that of the heap
abbrev pub seen_fault : ℕ → ViewHow → GridMap → Contents → Option FaultKind
seen_fault p how g s = first_fault (view_fault how g.domain) (new_fault p 0 s)

-- the result is this fault, if there is one, and a name otherwise; in both cases it may be an allocation failure instead
abbrev pub FaultsAs : Option FaultKind → Result Id HeapErr → Type 0
FaultsAs fault (Ok id) = fault ≡ None
FaultsAs fault (Err (Faulted kind)) = fault ≡ Some kind
FaultsAs fault (Err Memory) = Unit {0}
