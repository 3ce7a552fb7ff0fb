-- How the code's lists of objects, blocks and views represent the maps of `Contents`.
use Rattle.std.specs.Prelude.{◌≡◌, ℕ, zero, suc, ◌+◌, ◌≤◌, Bool, false, ◌&&◌, ◌==◌, if◌then◌else◌, List, [], ◌∷◌, ◌++◌, map, length, sum_by, slice_get, slice_set, Option, Some, None}
use Rattle.std.specs.List.{flat_map}
use Rattle.std.specs.Option.{option_map, option_and_then, option_map_or}
use Rattle.ti_base.specs.declared.value.Id.{Id}
use Rattle.ti_base.specs.declared.value.Value.{Value}
use Rattle.ti_grid.specs.declared.layout.Layout.{Layout}
use Rattle.ti_grid.specs.Views.{cell_number, NumbersBelow}
use Rattle.ti_heap.specs.declared.allocation.Allocation.{Allocation}
use Rattle.ti_heap.specs.declared.allocation.Allocation.TheVariants.{Object, Block, ViewOf, Gone}
use Rattle.ti_heap.specs.Contents.{CellIndex, cell_at, GridMap, Made, Contents}

-- ---- one object, block or view

-- the values of its cells
abbrev pub values_of : Allocation → List Value
values_of (Object region fields) = fields
values_of (Block whole elements) = elements
values_of (ViewOf view) = []
values_of Gone = []

-- the region that it is in
abbrev pub allocation_region : Allocation → ℕ
allocation_region (Object region fields) = region
allocation_region (Block whole elements) = whole.block.region
allocation_region (ViewOf view) = view.block.region
allocation_region Gone = 0

-- its region and its cost
abbrev pub made_of : Allocation → Made
made_of (Object region fields) = record { region = region; cost = 1 + length fields }
made_of (Block whole elements) = record { region = whole.block.region; cost = 1 + length elements }
made_of (ViewOf view) = record { region = view.block.region; cost = 1 }
made_of Gone = record { region = 0; cost = 0 }

abbrev pub allocation_cost : Allocation → ℕ
allocation_cost t = (made_of t).cost

-- the view of a block that it is, if it is a grid
abbrev pub layout_of : Allocation → Option Layout
layout_of (Object region fields) = None
layout_of (Block whole elements) = Some whole
layout_of (ViewOf view) = Some view
layout_of Gone = None

-- a name has its owner and region
abbrev pub is_named : Id → Allocation → Bool
is_named id (Object region fields) = id.owner == id.maker && id.region == region
is_named id (Block whole elements) = id.owner == whole.block.owner && id.region == whole.block.region
is_named id (ViewOf view) = id.owner == view.block.owner && id.region == view.block.region
is_named id Gone = false

-- with another value in one of its cells
abbrev pub put_in : ℕ → Value → Allocation → Allocation
put_in i v (Object region fields) = Object region (slice_set fields i v)
put_in i v (Block whole elements) = Block whole (slice_set elements i v)
put_in i v (ViewOf view) = ViewOf view
put_in i v Gone = Gone

-- dropped, if it is in the region
abbrev pub drop_if_in : ℕ → Allocation → Allocation
drop_if_in region t = if allocation_region t == region then Gone else t

-- the values of its cells, if it is in the region
abbrev pub values_in : ℕ → Allocation → List Value
values_in region t = if allocation_region t == region then values_of t else []

-- ---- by maker and serial number

abbrev pub Things : Type 0
Things = ℕ → ℕ → Option Allocation

abbrev pub thing_at : List (List Allocation) → Things
thing_at h maker serial = option_and_then (λ things. slice_get things serial) (slice_get h maker)

abbrev pub named : Id → Allocation → Option Allocation
named id t = if is_named id t then Some t else None

-- the object, block or view with this name, if it wasn't dropped
abbrev pub live : Things → Id → Option Allocation
live things id = option_and_then (named id) (things id.maker id.serial)

abbrev pub value_in_cell : Things → CellIndex → Option Value
value_in_cell things cell = option_and_then (λ t. slice_get (values_of t) cell.number) (live things cell.thing)

abbrev pub map_of : Layout → GridMap
map_of l = record { domain = l.dom; cell = λ p. option_map (cell_at l.block) (cell_number l p) }

abbrev pub layout_in : Things → Id → Option Layout
layout_in things id = option_and_then layout_of (live things id)

abbrev pub grid_in : Things → Id → Option GridMap
grid_in things id = option_map map_of (layout_in things id)

-- ---- the heap

-- what a process made
abbrev pub share_of : List (List Allocation) → ℕ → List Allocation
share_of h p = option_map_or (λ things. things) (slice_get h p) []

abbrev pub made_in : List (List Allocation) → ℕ → List Made
made_in h p = map made_of (share_of h p)

-- the maps
abbrev pub contents : List (List Allocation) → Contents
contents h = record { procs = length h; held = value_in_cell (thing_at h); grid = grid_in (thing_at h); made = made_in h }

-- the values of all cells of a region, by maker and then in the order of making
abbrev pub all_values_in : ℕ → List (List Allocation) → List Value
all_values_in region h = flat_map (λ things. flat_map (values_in region) things) h

-- the values of the cells of the thing at this place, if it is in the region
abbrev pub values_at : ℕ → List Allocation → ℕ → List Value
values_at region things n = option_map_or (values_in region) (slice_get things n) []

-- the values that an iteration has yet to yield: of the current thing, of the things at the places
-- that are left of the current share, of what else is left of it, and of the later shares
abbrev pub values_left : ℕ → List Value → List ℕ → List Allocation → List Allocation
    → List (List Allocation) → List Value
values_left region values places things rest shares =
    values ++ (flat_map (values_at region things) places
    ++ (flat_map (values_in region) rest ++ all_values_in region shares))

-- ---- invariants

-- the block of a view exists, and has all its cells
pub record IsBacked (things : Things) (l : Layout) : Type 0 where
  pub whole : Layout
  pub elements : List Value
  pub there : live things l.block ≡ Some (Block whole elements)
  pub below : NumbersBelow (length elements) l

-- the block of each grid exists
abbrev pub HaveBlocks : Things → Type 0
HaveBlocks things = (maker serial : ℕ) (t : Allocation) (l : Layout) → things maker serial ≡ Some t → layout_of t ≡ Some l → IsBacked things l

-- what is newly made under this name has its block
abbrev pub HasBacking : Things → Id → Allocation → Type 0
HasBacking things id (Object region fields) = Unit {0}
HasBacking things id (Block whole elements) = (whole.block ≡ id) × NumbersBelow (length elements) whole
HasBacking things id (ViewOf view) = IsBacked things view
HasBacking things id Gone = Unit {0}

-- the total cost of what a process made
abbrev pub total_cost : List Allocation → ℕ
total_cost things = sum_by (λ (m : Made). m.cost) (map made_of things)

-- the stored cost is the total cost, and doesn't exceed the limit
pub record IsCounted (cost : ℕ) (things : List Allocation) : Type 0 where
  pub same : cost ≡ total_cost things
  pub most : cost ≤ 1048576

-- ---- lists with one element changed

abbrev pub changed_at : {A : Type 0} → ℕ → (A → A) → List A → List A
changed_at n f [] = []
changed_at zero f (x ∷ xs) = f x ∷ xs
changed_at (suc n) f (x ∷ xs) = x ∷ changed_at n f xs
