-- Mirrors the code, for contracts of private functions: the index of a history, and how its objects and accesses represent those of the
-- specification.
use Rattle.std.specs.Prelude.{◌≡◌, ℕ, ◌==◌, if◌then◌else◌, List, [], ◌∷◌, ◌++◌, All, reverse, length, slice_get, codes, decimal, Option, None, Some}
use Rattle.std.specs.HashMap.{get}
use Rattle.std.specs.List.{flat_map}
use Rattle.ti_base.specs.declared.action.Action.{Action}
use Rattle.ti_base.specs.declared.action.Action.TheVariants as act
use Rattle.ti_base.specs.declared.action.ViewHow.{ViewHow}
use Rattle.ti_base.specs.declared.entry.Answer.{Answer}
use Rattle.ti_base.specs.declared.entry.Answer.TheVariants.{Val}
use Rattle.ti_base.specs.declared.entry.Entry.{Entry}
use Rattle.ti_base.specs.declared.point.Point.{Point}
use Rattle.ti_base.specs.declared.point.Rect.{Rect}
use Rattle.ti_base.specs.declared.value.Id.{Id}
use Rattle.ti_base.specs.declared.value.Value.TheVariants as v
use Rattle.ti_base.specs.declared.value.Zero.{Zero}
use Rattle.ti_base.specs.Cells.{whole_grid}
use Rattle.ti_base.specs.Forms.{is_view}
use Rattle.ti_base.specs.Rects.{points_of}
use Rattle.ti_lang.specs.Meaning.Histories.{History, history_of, departures}
use Rattle.ti_lang.specs.Meaning.Spots as told
use Rattle.ti_lang.specs.Meaning.Spots.{Block, is_block, viewed_told, object_told, grid_told}
use Rattle.ti_grid.specs.Views.{place_in}
use Rattle.ti_race.specs.declared.grid_layout.GridLayout.{GridLayout}
use Rattle.ti_race.specs.declared.spots.IdKey.{IdKey}
use Rattle.ti_race.specs.declared.spots.PointKey.{PointKey}
use Rattle.ti_race.specs.declared.spots.Thing.{Thing}
use Rattle.ti_race.specs.declared.spots.Thing.TheVariants as thing
use Rattle.ti_race.specs.declared.spots.Spot.{Spot}
use Rattle.ti_race.specs.declared.spots.Spot.TheVariants as spot
use Rattle.ti_race.specs.declared.spots.Use.{Use}
use Rattle.ti_race.specs.declared.history_index.HistoryIndex.{HistoryIndex}
use Rattle.ti_race.specs.declared.uses.Uses.{Uses}
use Rattle.ti_race.specs.contracts.spots.IdKeyPartialEq.TheImpl as name_eq
use Rattle.ti_race.specs.Mirrors.GridLayout.{LaysOut}
use Rattle.ti_race.specs.Mirrors.AccessTable.{racing_in}

-- identities and points as keys
abbrev pub id_key : Id → IdKey
id_key id = record { maker = id.maker; serial = id.serial; owner = id.owner; region = id.region }

abbrev pub point_key : Point → PointKey
point_key p = record { dim = p.dim; x1 = p.x1; x2 = p.x2; x3 = p.x3 }

-- ---- blocks

-- the domain of the block that an operation creates
abbrev pub block_made : Action → Option Rect
block_made (act.NewGrid zero domain region) = Some domain
block_made a = None

-- the domain of the block that the entry with this number created
abbrev pub whole_at : ℕ → History → Option Rect
whole_at n [] = None
whole_at n (e ∷ earlier) = if n == length earlier then block_made e.act else whole_at n earlier

-- this is how the grid is stored, or both are unknown
abbrev pub IsLayoutIn : History → Option GridLayout → Option Block → Type 0
IsLayoutIn h None None = Unit {0}
IsLayoutIn h (Some l) (Some b) = (whole : Rect) × (whole_at b.number h ≡ Some whole) × LaysOut whole l b
IsLayoutIn h l b = ⊥

-- the grid of a block that an entry creates
abbrev pub block_told : Id → ℕ → Zero → Rect → Option Block
block_told id number zero domain = if is_block domain then Some (record { number = number; grid = whole_grid id zero domain }) else None

-- and of a view of a known grid
abbrev pub view_told : ViewHow → Option Block → Option Block
view_told how b = if is_view how then viewed_told how b else None

-- ---- results

-- the object that a result refers to
abbrev pub object_result : Answer → Option Id
object_result (Val (v.Obj made)) = made
object_result r = None

-- the grid that a result refers to
abbrev pub grid_result : Answer → Option Id
grid_result (Val (v.Grid made)) = made
grid_result r = None

-- ---- the index

-- how a grid is stored according to a lookup; unknown if it isn't in the table
abbrev pub lying_in : Option (Option GridLayout) → Option GridLayout
lying_in None = None
lying_in (Some l) = l

-- a process that isn't in the table has left no collective
abbrev pub phase_in : Option ℕ → ℕ
phase_in None = 0
phase_in (Some n) = n

-- how many collectives each process has left
abbrev pub IndexesPhases : HistoryIndex → History → Type 0
IndexesPhases t h = (i : ℕ) → phase_in (get ◌==◌ t.phases i) ≡ departures i h

-- which entry created the object of each identity last
abbrev pub IndexesObjects : HistoryIndex → History → Type 0
IndexesObjects t h = (id : Id) → get (name_eq.ghosts).eq t.objects (id_key id) ≡ object_told id h

-- how the grid is stored that was created last with each identity
abbrev pub IndexesGrids : HistoryIndex → History → Type 0
IndexesGrids t h = (id : Id) → IsLayoutIn h (lying_in (get (name_eq.ghosts).eq t.grids (id_key id))) (grid_told id h)

-- the index is that of the history
pub record IndexesHistory (t : HistoryIndex) (h : History) : Type 0 where
  pub count : t.count ≡ length h
  pub phases : IndexesPhases t h
  pub objects : IndexesObjects t h
  pub grids : IndexesGrids t h

-- ---- accesses

-- the key represents this object
abbrev pub IsThing : Thing → told.Thing → Type 0
IsThing (thing.Made n) (told.Made m) = n ≡ m
IsThing (thing.Untold name) (told.Untold id) = name ≡ id_key id
IsThing t u = ⊥

-- the key represents this memory location: an element of a block by the number of its cell
abbrev pub IsSpot : History → Spot → told.Spot → Type 0
IsSpot h (spot.FieldOf t f) (told.FieldOf u g) = IsThing t u × (f ≡ g)
IsSpot h (spot.CellOf n i) (told.ElementOf (told.Made m) p) =
    (n ≡ m) × ((whole : Rect) × (whole_at m h ≡ Some whole) × (place_in (points_of whole) p ≡ Some i))
IsSpot h (spot.PointOf name at) (told.ElementOf (told.Untold id) p) = (name ≡ id_key id) × (at ≡ point_key p)
IsSpot h s t = ⊥

-- the key represents this memory location, or there is neither
abbrev pub IsSpotIf : History → Option Spot → Option told.Spot → Type 0
IsSpotIf h None None = Unit {0}
IsSpotIf h (Some s) (Some t) = IsSpot h s t
IsSpotIf h s t = ⊥

-- the stored access is that of the specification
pub record IsUse (h : History) (u : Use) (a : told.Use) : Type 0 where
  pub number : u.number ≡ a.number
  pub proc : u.proc ≡ a.proc
  pub phase : u.phase ≡ a.phase
  pub spot : IsSpot h u.spot a.spot
  pub writes : u.writes ≡ a.writes

-- the stored access is that of the specification, or there is neither
abbrev pub IsUseIf : History → Option Use → Option told.Use → Type 0
IsUseIf h None None = Unit {0}
IsUseIf h (Some u) (Some a) = IsUse h u a
IsUseIf h u a = ⊥

-- the stored accesses are those of the specification, in the same order
abbrev pub AreUses : History → List Use → List told.Use → Type 0
AreUses h [] [] = Unit {0}
AreUses h (u ∷ us) (a ∷ rest) = IsUse h u a × AreUses h us rest
AreUses h us rest = ⊥

-- these are the accesses of a history in the order of its entries
abbrev pub HasUses : History → List Use → Type 0
HasUses h us = AreUses h (reverse us) (told.uses h)

-- ---- lists of entries

-- an option as a list
abbrev pub one_or_none : {A : Type 0} → Option A → List A
one_or_none None = []
one_or_none (Some x) = x ∷ []

-- the process and the source location of the access are those of the entry with its number
abbrev pub IsListed : List Entry → Use → Type 0
IsListed es u = (e : Entry) × (slice_get es u.number ≡ Some e) × (u.proc ≡ e.proc) × (u.place ≡ e.place)

-- these are the accesses of a list of entries, with its index
pub record Gathers (kept : Uses) (es : List Entry) : Type 0 where
  pub told : IndexesHistory kept.told (history_of es)
  pub uses : HasUses (history_of es) kept.found.items
  pub listed : All (IsListed es) kept.found.items

-- the line of the entry of an access
abbrev pub use_line : Use → List ℕ
use_line u =
    decimal u.number ++ codes " p" ++ decimal u.proc ++ codes " " ++ decimal u.place.line ++ codes ":" ++ decimal u.place.col ++ 10 ∷ []

-- the report of a list of accesses
abbrev pub report_of : List Use → List ℕ
report_of us = codes "races " ++ decimal (length (racing_in us)) ++ 10 ∷ flat_map use_line (racing_in us)
