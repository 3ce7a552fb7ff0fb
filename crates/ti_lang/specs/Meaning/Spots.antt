-- Races in any list of entries, even one that is no run, as in a trace that is given. What an access refers to is determined
-- by the entries before it and nothing else; an object or grid whose creation they don't show is known by its name.
use Rattle.std.specs.Prelude.{ℕ, nat_le, ◌==◌, Bool, true, false, not, ◌&&◌, ◌||◌, if◌then◌else◌, List, [], ◌∷◌, ◌++◌, map, filter, reverse, length, slice_get, codes, decimal, Option, Some, None}
use Rattle.std.specs.List.{list_any, flat_map}
use Rattle.std.specs.Option.{option_map}
use Rattle.ti_base.specs.declared.point.Point.{Point}
use Rattle.ti_base.specs.declared.point.Rect.{Rect}
use Rattle.ti_base.specs.declared.value.Id.{Id}
use Rattle.ti_base.specs.declared.action.Action.{Action}
use Rattle.ti_base.specs.declared.action.Action.TheVariants as act
use Rattle.ti_base.specs.declared.action.ViewHow.{ViewHow}
use Rattle.ti_base.specs.declared.fault.FaultKind.{FaultKind}
use Rattle.ti_base.specs.declared.entry.Entry.{Entry}
use Rattle.ti_base.specs.PointSets.{same_point}
use Rattle.ti_base.specs.Rects.{is_in, size_of}
use Rattle.ti_base.specs.Forms.{is_rect, is_view}
use Rattle.ti_base.specs.Cells.{same_id, Grid, whole_grid, view, suits, view_fault}
use Rattle.ti_lang.specs.Meaning.Histories.{History, history_of}
use Rattle.ti_lang.specs.Meaning.HeapOf.{is_object, is_grid, most_cells}
use Rattle.ti_lang.specs.Meaning.Races.{is_put, phase_of, prepend_option}

-- ---- the location of an access

-- an object or a block of elements: known by the index of the entry that created it, or by its name if no entry did
pub data Thing : Type 0 where
  Made : (number : ℕ) → Thing
  Untold : (id : Id) → Thing

-- a memory location: a field of an object or an element of a block
pub data Spot : Type 0 where
  FieldOf : (thing : Thing) (field : ℕ) → Spot
  ElementOf : (thing : Thing) (at : Point) → Spot

-- both were created by the same entry, or both have the same name and no known creation
abbrev pub same_thing : Thing → Thing → Bool
same_thing (Made a) (Made b) = a == b
same_thing (Untold a) (Untold b) = same_id a b
same_thing a b = false

-- both are the same field or element of the same object or block
abbrev pub same_spot : Spot → Spot → Bool
same_spot (FieldOf a f) (FieldOf b g) = same_thing a b && f == g
same_spot (ElementOf a p) (ElementOf b q) = same_thing a b && same_point p q
same_spot a b = false

-- ---- creations

-- the action creates an object
abbrev pub makes_object : Action → Bool
makes_object (act.NewObj class region) = true
makes_object a = false

-- the action creates a grid or a view
abbrev pub makes_grid : Action → Bool
makes_grid (act.NewGrid zero domain region) = true
makes_grid (act.MakeView grid how) = true
makes_grid a = false

-- the index of the last entry that created an object of this name; None if there is none
abbrev pub object_told : Id → History → Option ℕ
object_told id [] = None
object_told id (e ∷ earlier) = if makes_object e.act && is_object id e.answer then Some (length earlier) else object_told id earlier

-- a grid with the index of the entry that created its block
pub record Block : Type 0 where
  pub number : ℕ
  pub grid : Grid

-- whether there is no fault
abbrev pub no_fault : Option FaultKind → Bool
no_fault None = true
no_fault (Some kind) = false

-- a view of a known grid; None if the grid isn't known, the view doesn't suit it or would fault
abbrev pub viewed_told : ViewHow → Option Block → Option Block
viewed_told how None = None
viewed_told how (Some b) =
    if suits how b.grid.domain && no_fault (view_fault how b.grid.domain)
    then Some (record { number = b.number; grid = view how b.grid })
    else None

-- the domain of a block is in canonical form, and has no more points than a process may have cells
abbrev pub is_block : Rect → Bool
is_block domain = is_rect domain && nat_le (size_of domain) most_cells

-- the grid that an action creates as entry `number`, given the grids known before it; None if it is malformed or creates none
abbrev pub grid_from : Id → ℕ → Action → (Id → Option Block) → Option Block
grid_from id number (act.NewGrid zero domain region) earlier =
    if is_block domain then Some (record { number = number; grid = whole_grid id zero domain }) else None
grid_from id number (act.MakeView viewed how) earlier = if is_view how then viewed_told how (earlier viewed) else None
grid_from id number a earlier = None

-- the grid of this name, by the last entry that created one of this name; None if there is none or that one isn't well-formed
abbrev pub grid_told : Id → History → Option Block
grid_told id [] = None
grid_told id (e ∷ earlier) =
    if makes_grid e.act && is_grid id e.answer
    then grid_from id (length earlier) e.act (λ viewed. grid_told viewed earlier)
    else grid_told id earlier

-- ---- accesses

-- an object: by the entry that created it, or else by its name
abbrev pub object_thing : Id → Option ℕ → Thing
object_thing id None = Untold id
object_thing id (Some number) = Made number

-- an element of a grid: by its position in the block; if the grid isn't known or the point is outside its domain, by the
-- name of the grid and the point
abbrev pub element_spot : Id → Point → Option Block → Spot
element_spot id at None = ElementOf (Untold id) at
element_spot id at (Some b) =
    if is_in b.grid.domain at then ElementOf (Made b.number) (b.grid.place at) else ElementOf (Untold id) at

-- the location that an action reads or writes; None for other actions
abbrev pub spot_used : Action → History → Option Spot
spot_used (act.GetField obj field) h = Some (FieldOf (object_thing obj (object_told obj h)) field)
spot_used (act.PutField obj field value) h = Some (FieldOf (object_thing obj (object_told obj h)) field)
spot_used (act.GetElem grid at) h = Some (element_spot grid at (grid_told grid h))
spot_used (act.PutElem grid at value) h = Some (element_spot grid at (grid_told grid h))
spot_used a h = None

-- an access: the index of its entry, from 0; the process; the phase, which is the number of collectives that the process has
-- left before it; the location; and whether it is a write
pub record Use : Type 0 where
  pub number : ℕ
  pub proc : ℕ
  pub phase : ℕ
  pub spot : Spot
  pub writes : Bool

-- the access that an entry makes after this history; None if it makes none
abbrev pub use_of : Entry → History → Option Use
use_of e h =
    option_map (λ (s : Spot). record { number = length h; proc = e.proc; phase = phase_of e.proc h; spot = s; writes = is_put e.act })
    (spot_used e.act h)

-- the accesses of a history, the latest first
abbrev pub uses : History → List Use
uses [] = []
uses (e ∷ earlier) = prepend_option (use_of e earlier) (uses earlier)

-- two accesses conflict: of different processes, in the same phase, to the same location, at least one of them a write
abbrev pub clash : Use → Use → Bool
clash a b = not (a.proc == b.proc) && a.phase == b.phase && same_spot a.spot b.spot && (a.writes || b.writes)

-- the access conflicts with one of these
abbrev pub clashes_among : List Use → Use → Bool
clashes_among others a = list_any (clash a) others

-- the indices of the entries that are part of a race, as far as the entries determine it, in increasing order
abbrev pub races_told : List Entry → List ℕ
races_told es = reverse (map (λ (a : Use). a.number) (filter (clashes_among (uses (history_of es))) (uses (history_of es))))

-- ---- the report

-- the line of the report for an entry that is part of a race: its index, its process and its position in the source
abbrev pub race_line : ℕ → Option Entry → List ℕ
race_line number None = []
race_line number (Some e) =
    decimal number ++ codes " p" ++ decimal e.proc ++ codes " " ++ decimal e.place.line ++ codes ":" ++ decimal e.place.col ++ 10 ∷ []

-- the report: the number of entries that are part of a race, and then the line of each
abbrev pub races_text : List Entry → List ℕ
races_text es = codes "races " ++ decimal (length (races_told es)) ++ 10 ∷ flat_map (λ n. race_line n (slice_get es n)) (races_told es)
