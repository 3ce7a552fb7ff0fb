-- The courses of processes through the collectives (rounds): all their arrivals and departures.
use Rattle.std.specs.Prelude.{◌≡◌, ℕ, ◌+◌, ◌==◌, if◌then◌else◌, List, [], ◌∷◌, map, length, slice_get, slice_index_or, slice_set, Option, Some, None, IfSome, option_map}
use Rattle.std.specs.Option.{option_map_or}
use Rattle.ti_base.specs.declared.action.CollKind.{CollKind}
use Rattle.ti_base.specs.declared.action.CollKind.TheVariants.{Broadcast}
use Rattle.ti_base.specs.declared.action.Deposit.{Deposit}
use Rattle.ti_base.specs.declared.action.Deposit.TheVariants.{Nothing}
use Rattle.ti_base.specs.declared.place.Place.{Place}
use Rattle.ti_rounds.specs.declared.arrival.Arrival.{Arrival}
use Rattle.ti_rounds.specs.declared.proc_rounds.ProcRounds.{ProcRounds}
use Rattle.ti_rounds.specs.Seats.{collective_of}

-- the arrivals and departures of a process
pub record Course : Type 0 where
  -- its arrivals so far, the last one first; its nth arrival is that at the nth round
  pub arrivals : List Arrival
  -- how many rounds it has left; it is waiting if it has one more arrival
  pub departures : ℕ

-- no arrival and no departure
abbrev pub no_course : Course
no_course = record { arrivals = []; departures = 0 }

-- the course of the process with this number
abbrev pub course_at : List Course → ℕ → Course
course_at courses p = slice_index_or courses p no_course

-- the stored part of a course
abbrev pub seat_of : Course → ProcRounds
seat_of c =
    record { arrivals = length c.arrivals; departures = c.departures; latest = slice_get c.arrivals 0; before = slice_get c.arrivals 1 }

-- the stored state is that of these courses
abbrev pub Keeps : List ProcRounds → List Course → Type 0
Keeps seats courses = seats ≡ map seat_of courses

-- ---- arrivals at a round

-- the arrival at the round with this number, counted from 1, in a list of arrivals with the last one first
abbrev pub arrival_at : ℕ → List Arrival → Option Arrival
arrival_at round [] = None
arrival_at round (a ∷ earlier) = if length earlier + 1 == round then Some a else arrival_at round earlier

-- kind, place and argument of a process's arrival at the round
abbrev pub said_at : List Course → ℕ → ℕ → Option (CollKind × Place × Option ℕ)
said_at courses p round = option_map collective_of (arrival_at round (course_at courses p).arrivals)

-- all processes that have arrived at the round stated this
abbrev pub AllSay : List Course → ℕ → CollKind × Place × Option ℕ → Type 0
AllSay courses round said = (q : ℕ) → IfSome (said_at courses q round) (λ other. other ≡ said)

-- the contribution of an arrival, or `Nothing` if there is none
abbrev pub deposit_of : Option Arrival → Deposit
deposit_of arrival = option_map_or (λ (a : Arrival). a.deposit) arrival Nothing

-- what a process contributed at the round
abbrev pub given_at : List Course → ℕ → ℕ → Deposit
given_at courses who round = deposit_of (arrival_at round (course_at courses who).arrivals)

-- what a departure from the round yields: at a broadcast the root's contribution, otherwise nothing
abbrev pub handed_at : List Course → ℕ → CollKind → Option ℕ → Deposit
handed_at courses round Broadcast (Some root) = given_at courses root round
handed_at courses round kind arg = Nothing

-- what the departure of a process from the round that it reached last yields
abbrev pub departure_of : List Course → ℕ → Deposit
departure_of courses p =
    let arrivals = (course_at courses p).arrivals in
    option_map_or (λ (a : Arrival). handed_at courses (length arrivals) a.kind a.arg) (slice_get arrivals 0) Nothing

-- ---- steps

-- the courses after an arrival of a process
abbrev pub with_arrival : List Course → ℕ → Arrival → List Course
with_arrival courses p a =
    let c = course_at courses p in slice_set courses p (record { arrivals = a ∷ c.arrivals; departures = c.departures })

-- the courses after a departure of a process
abbrev pub with_departure : List Course → ℕ → List Course
with_departure courses p =
    let c = course_at courses p in slice_set courses p (record { arrivals = c.arrivals; departures = c.departures + 1 })
