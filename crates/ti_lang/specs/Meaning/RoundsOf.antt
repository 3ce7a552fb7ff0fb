-- Rounds, that is, collective instances: the nth round consists of the nth arrivals of all processes, counted from 1.
use Rattle.std.specs.Prelude.{ℕ, ◌==◌, Bool, true, false, ◌&&◌, ◌||◌, nat_lt, if◌then◌else◌, [], ◌∷◌, count_by, Option, Some, None}
use Rattle.std.specs.Option.{option_and_then}
use Rattle.ti_base.specs.declared.action.Action.{Action}
use Rattle.ti_base.specs.declared.action.Action.TheVariants as act
use Rattle.ti_base.specs.declared.action.CollKind.{CollKind}
use Rattle.ti_base.specs.declared.action.CollKind.TheVariants as coll
use Rattle.ti_base.specs.declared.action.Deposit.{Deposit}
use Rattle.ti_base.specs.declared.action.Deposit.TheVariants as deposit
use Rattle.ti_base.specs.declared.value.Value.{Value}
use Rattle.ti_lang.specs.Meaning.Histories.{History, is_arrival, is_departure, entries_of, arrivals}

-- ---- arrivals

-- what a process contributes by its arrival: the kind of collective, its argument and a deposit
pub record Arrival : Type 0 where
  pub kind : CollKind
  pub arg : Option ℕ
  pub deposit : Deposit

-- the arrival in an action; None if it is none
abbrev pub arrival_in : Action → Option Arrival
arrival_in (act.Arrive kind arg deposit_from) = Some (record { kind = kind; arg = arg; deposit = deposit_from })
arrival_in a = None

-- the round of the last arrival of process i, in which it waits unless it has left it; 0 if it hasn't arrived yet
abbrev pub round_of : ℕ → History → ℕ
round_of i h = arrivals i h

-- the arrival of process i at this round; None if it hasn't reached it
abbrev pub arrival_at : ℕ → ℕ → History → Option Arrival
arrival_at i round [] = None
arrival_at i round (e ∷ earlier) =
    if e.proc == i && is_arrival e.act && arrivals i (e ∷ earlier) == round then arrival_in e.act else arrival_at i round earlier

-- the last arrival of process i
abbrev pub last_arrival : ℕ → History → Option Arrival
last_arrival i h = arrival_at i (round_of i h) h

-- ---- deposits and departures

-- the value of a deposit, if it has one
abbrev pub value_in : Deposit → Option Value
value_in (deposit.One value) = Some value
value_in d = None

-- the value that process `who` deposited in the round that process i reached last
abbrev pub deposit_from : ℕ → ℕ → History → Option Value
deposit_from i who h = option_and_then (λ (a : Arrival). value_in a.deposit) (arrival_at who (round_of i h) h)

-- some process has left this round
abbrev pub was_left : ℕ → History → Bool
was_left round [] = false
was_left round (e ∷ earlier) = is_departure e.act && round_of e.proc earlier == round || was_left round earlier

-- ---- regions in rounds

-- the arrival is at the creation of a region
abbrev pub makes_region : Action → Bool
makes_region (act.Arrive coll.MakeRegion arg deposit_from) = true
makes_region a = false

-- the number of rounds that create a region, among those that process i has reached
abbrev pub rounds_making : ℕ → History → ℕ
rounds_making i h = count_by (λ e. makes_region e.act) (entries_of i h)

-- the collective of this kind and argument deletes region r
abbrev pub deletes : ℕ → CollKind → Option ℕ → Bool
deletes r coll.DeleteRegion (Some n) = n == r
deletes r kind arg = false

-- the arrival is at a delete of region r
abbrev pub is_delete_of : ℕ → Option Arrival → Bool
is_delete_of r None = false
is_delete_of r (Some a) = deletes r a.kind a.arg

-- the deposit is a count above 0
abbrev pub is_positive_count : Deposit → Bool
is_positive_count (deposit.Count n) = nat_lt 0 n
is_positive_count d = false

-- the action is an arrival with a count above 0
abbrev pub counts_some : Action → Bool
counts_some (act.Arrive kind arg deposit_from) = is_positive_count deposit_from
counts_some a = false

-- some process arrived at this round with a count above 0
abbrev pub was_counted : ℕ → History → Bool
was_counted round [] = false
was_counted round (e ∷ earlier) = counts_some e.act && round_of e.proc (e ∷ earlier) == round || was_counted round earlier
