-- Definitions that mirror the code. Only contracts of private functions and the invariant use them, so a reader needn't check them.
use Rattle.std.specs.Prelude.{◌≡◌, ℕ, ◌+◌, ◌<◌, ◌≤◌, ◌==◌, if◌then◌else◌, List, length, Option, Some, None, IsSome}
use Rattle.ti_rounds.specs.declared.arrival.Arrival.{Arrival}
use Rattle.ti_rounds.specs.declared.proc_rounds.ProcRounds.{ProcRounds}
use Rattle.ti_rounds.specs.Seats.{seat_at, collective_of}

-- one more arrival
abbrev pub after_arrival : ProcRounds → Arrival → ProcRounds
after_arrival s a = record { arrivals = s.arrivals + 1; departures = s.departures; latest = Some a; before = s.latest }

-- one more departure
abbrev pub after_departure : ProcRounds → ProcRounds
after_departure s = record { arrivals = s.arrivals; departures = s.departures + 1; latest = s.latest; before = s.before }

-- the arrival at the round, if it is stored
abbrev pub kept_at : ℕ → ProcRounds → Option Arrival
kept_at round s = if s.arrivals == round then s.latest else if s.arrivals == round + 1 then s.before else None

-- a process has at most one arrival more than departures, and its last arrival is stored
pub record IsSeat (s : ProcRounds) : Type 0 where
  pub goes : s.arrivals ≤ s.departures + 1
  pub known : 0 < s.arrivals → IsSome s.latest

-- nobody has left a round that another hasn't reached, and all that have arrived at a round stated the same
pub record InStep (s t : ProcRounds) : Type 0 where
  pub reached : s.departures ≤ t.arrivals
  pub agreed : (round : ℕ) (a b : Arrival) → kept_at round s ≡ Some a → kept_at round t ≡ Some b → collective_of a ≡ collective_of b

-- all processes are pairwise in step
pub record AreInStep (seats : List ProcRounds) : Type 0 where
  pub each : (p : ℕ) → p < length seats → IsSeat (seat_at seats p)
  pub both : (p q : ℕ) → p < length seats → q < length seats → InStep (seat_at seats p) (seat_at seats q)
