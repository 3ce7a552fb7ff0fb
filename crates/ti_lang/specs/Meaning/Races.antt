-- Data races: conflicting accesses of two processes to one cell in the same phase, that is, with no collective between them.
use Rattle.std.specs.Prelude.{ℕ, ◌==◌, Bool, true, false, not, ◌&&◌, ◌||◌, List, [], ◌∷◌, map, filter, reverse, length, Option, Some, None}
use Rattle.std.specs.List.{list_any}
use Rattle.std.specs.Option.{option_map}
use Rattle.ti_base.specs.declared.action.Action.{Action}
use Rattle.ti_base.specs.declared.action.Action.TheVariants as act
use Rattle.ti_base.specs.declared.entry.Entry.{Entry}
use Rattle.ti_base.specs.Cells.{Cell, Field, same_cell, Grid, cell_of}
use Rattle.ti_lang.specs.Meaning.Histories.{History, history_of, departures}
use Rattle.ti_lang.specs.Meaning.HeapOf.{grid_of_id}

-- ---- accesses

-- the action writes a field or an element
abbrev pub is_put : Action → Bool
is_put (act.PutField obj field value) = true
is_put (act.PutElem grid at value) = true
is_put a = false

-- the cell that an action reads or writes: views of the same block share cells; None for other actions
abbrev pub cell_used : Action → History → Option Cell
cell_used (act.GetField obj field) h = Some (Field obj field)
cell_used (act.PutField obj field value) h = Some (Field obj field)
cell_used (act.GetElem grid at) h = option_map (λ (g : Grid). cell_of g at) (grid_of_id grid h)
cell_used (act.PutElem grid at value) h = option_map (λ (g : Grid). cell_of g at) (grid_of_id grid h)
cell_used a h = None

-- the phase of process i: the number of collectives that it has left
abbrev pub phase_of : ℕ → History → ℕ
phase_of i h = departures i h

-- an access: the index of its entry, from 0; the process and its phase; the cell; and whether it is a write
pub record Access : Type 0 where
  pub number : ℕ
  pub proc : ℕ
  pub phase : ℕ
  pub cell : Cell
  pub writes : Bool

-- the access that an entry makes after this history; None if it makes none
abbrev pub access_of : Entry → History → Option Access
access_of e h =
    option_map (λ (c : Cell). record { number = length h; proc = e.proc; phase = phase_of e.proc h; cell = c; writes = is_put e.act })
    (cell_used e.act h)

-- the list preceded by the contents of the option, if there are any
abbrev pub prepend_option : {A : Type 0} → Option A → List A → List A
prepend_option None xs = xs
prepend_option (Some x) xs = x ∷ xs

-- the accesses of a history, the latest first
abbrev pub accesses : History → List Access
accesses [] = []
accesses (e ∷ earlier) = prepend_option (access_of e earlier) (accesses earlier)

-- ---- races

-- two accesses race: of different processes, in the same phase, to the same cell, at least one of them a write
abbrev pub race : Access → Access → Bool
race a b = not (a.proc == b.proc) && a.phase == b.phase && same_cell a.cell b.cell && (a.writes || b.writes)

-- the access races with one of these
abbrev pub races_among : List Access → Access → Bool
races_among others a = list_any (race a) others

-- the indices of the entries that are part of a race, in increasing order
abbrev pub races : List Entry → List ℕ
races es = reverse (map (λ (a : Access). a.number) (filter (races_among (accesses (history_of es))) (accesses (history_of es))))
