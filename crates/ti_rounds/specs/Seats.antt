-- The stored state of processes: how far each is, and its arrivals at the two latest rounds.
use Rattle.std.specs.Prelude.{◌≡◌, ℕ, ◌+◌, ◌<◌, ◌≤◌, List, length, Option, None, slice_index_or}
use Rattle.ti_base.specs.declared.action.CollKind.{CollKind}
use Rattle.ti_base.specs.declared.place.Place.{Place}
use Rattle.ti_rounds.specs.declared.arrival.Arrival.{Arrival}
use Rattle.ti_rounds.specs.declared.proc_rounds.ProcRounds.{ProcRounds}

-- the state before any arrival
abbrev pub new_seat : ProcRounds
new_seat = record { arrivals = 0; departures = 0; latest = None; before = None }

-- the stored state of the process with this number
abbrev pub seat_at : List ProcRounds → ℕ → ProcRounds
seat_at seats p = slice_index_or seats p new_seat

-- the round that a process reached last, counted from 1, and in which it waits if it hasn't left it
abbrev pub round_at : List ProcRounds → ℕ → ℕ
round_at seats p = (seat_at seats p).arrivals

-- how many rounds a process has left
abbrev pub left_by : List ProcRounds → ℕ → ℕ
left_by seats p = (seat_at seats p).departures

-- the process has left each round that it reached
abbrev pub HasLeft : List ProcRounds → ℕ → Type 0
HasLeft seats p = round_at seats p ≡ left_by seats p

-- the process has yet to leave the round that it reached last
abbrev pub Waits : List ProcRounds → ℕ → Type 0
Waits seats p = round_at seats p ≡ left_by seats p + 1

-- all processes have arrived at the round
abbrev pub IsReached : List ProcRounds → ℕ → Type 0
IsReached seats round = (q : ℕ) → q < length seats → round ≤ round_at seats q

-- no process has left the round
abbrev pub IsUnleft : List ProcRounds → ℕ → Type 0
IsUnleft seats round = (q : ℕ) → q < length seats → left_by seats q < round

-- kind, place and argument of an arrival
abbrev pub collective_of : Arrival → CollKind × Place × Option ℕ
collective_of a = (a.kind, a.place, a.arg)
