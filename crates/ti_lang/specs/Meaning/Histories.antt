-- What a history records of a process: its answers, its arrivals at and departures from collectives, and how many objects, grids
-- and views it has created.
use Rattle.std.specs.Prelude.{ℕ, ◌==◌, Bool, true, false, not, ◌||◌, List, map, filter, reverse, count_by}
use Rattle.std.specs.List.{list_any}
use Rattle.ti_base.specs.declared.action.Action.{Action}
use Rattle.ti_base.specs.declared.action.Action.TheVariants as act
use Rattle.ti_base.specs.declared.entry.Answer.{Answer}
use Rattle.ti_base.specs.declared.entry.Entry.{Entry}

-- a history: the entries (events) of a run so far, the latest first
abbrev pub History : Type 0
History = List Entry

-- the history of entries that are given in order
abbrev pub history_of : List Entry → History
history_of es = reverse es

-- ---- kinds of actions

-- the end of a process
abbrev pub is_end : Action → Bool
is_end act.End = true
is_end a = false

-- a fault
abbrev pub is_fault : Action → Bool
is_fault (act.Fault kind) = true
is_fault a = false

-- an arrival at a collective
abbrev pub is_arrival : Action → Bool
is_arrival (act.Arrive kind arg deposit) = true
is_arrival a = false

-- a departure from a collective
abbrev pub is_departure : Action → Bool
is_departure act.Depart = true
is_departure a = false

-- the creation of an object, a grid or a view
abbrev pub is_making : Action → Bool
is_making (act.NewObj class region) = true
is_making (act.NewGrid zero domain region) = true
is_making (act.MakeView grid how) = true
is_making a = false

-- the entry is of an action that got an answer, so neither an end nor a fault
abbrev pub is_answered : Entry → Bool
is_answered e = not (is_end e.act || is_fault e.act)

-- ---- the entries of a process

-- the entries of process i
abbrev pub entries_of : ℕ → List Entry → List Entry
entries_of i es = filter (λ e. e.proc == i) es

-- the answers that the actions of process i have received, in order
abbrev pub answers_of : ℕ → List Entry → List Answer
answers_of i es = map (λ (e : Entry). e.answer) (filter is_answered (entries_of i es))

-- the number of collectives at which process i has arrived; its nth arrival belongs to the nth round
abbrev pub arrivals : ℕ → List Entry → ℕ
arrivals i es = count_by (λ e. is_arrival e.act) (entries_of i es)

-- the number of collectives that process i has left
abbrev pub departures : ℕ → List Entry → ℕ
departures i es = count_by (λ e. is_departure e.act) (entries_of i es)

-- the number of objects, grids and views that process i has created
abbrev pub things_made : ℕ → List Entry → ℕ
things_made i es = count_by (λ e. is_making e.act) (entries_of i es)

-- process i has ended
abbrev pub has_end : ℕ → List Entry → Bool
has_end i es = list_any (λ e. is_end e.act) (entries_of i es)

-- some process has faulted
abbrev pub has_fault : List Entry → Bool
has_fault es = list_any (λ e. is_fault e.act) es
