-- Mirrors the code, for contracts of private functions: the table of accesses, and which of them race.
use Rattle.std.specs.Prelude.{◌≡◌, ℕ, ◌==◌, Bool, true, false, not, ◌&&◌, ◌||◌, if◌then◌else◌, List, filter, Option, Some, None}
use Rattle.std.specs.List.{list_any}
use Rattle.std.specs.HashMap.{HashMap, get}
use Rattle.ti_race.specs.declared.spots.Use.{Use}
use Rattle.ti_race.specs.declared.spots.Spot.{Spot}
use Rattle.ti_race.specs.contracts.spots.SpotPartialEq.TheImpl as spot_eq
use Rattle.ti_race.specs.declared.table.Procs.{Procs}
use Rattle.ti_race.specs.declared.table.Procs.TheVariants.{One, Several}
use Rattle.ti_race.specs.declared.table.Accessors.{Accessors}

-- two memory locations are equal
abbrev pub same_spot : Spot → Spot → Bool
same_spot = (spot_eq.ghosts).eq

-- two accesses to one location in one phase by two processes, at least one of them a write
abbrev pub clash : Use → Use → Bool
clash a b = not (a.proc == b.proc) && a.phase == b.phase && same_spot a.spot b.spot && (a.writes || b.writes)

-- those that race with one of the list
abbrev pub racing_in : List Use → List Use
racing_in uses = filter (λ u. list_any (clash u) uses) uses

-- ---- the record of a location in a phase

-- the set has a member other than this process
abbrev pub others : Option Procs → ℕ → Bool
others None i = false
others (Some (One j)) i = not (j == i)
others (Some Several) i = true

-- a memory location in a phase
abbrev pub LocationKey : Type 0
LocationKey = Spot × ℕ

abbrev pub same_location_key : LocationKey → LocationKey → Bool
same_location_key a b = same_spot a.0 b.0 && a.1 == b.1

abbrev pub access_key : Use → LocationKey
access_key u = (u.spot, u.phase)

abbrev pub users_in : Option Accessors → Option Procs
users_in None = None
users_in (Some s) = s.users

abbrev pub writers_in : Option Accessors → Option Procs
writers_in None = None
writers_in (Some s) = s.writers

-- some access at the key is by another process
abbrev pub used_by_others : List Use → LocationKey → ℕ → Bool
used_by_others uses key i = list_any (λ (u : Use). same_location_key (access_key u) key && not (u.proc == i)) uses

-- some write at the key is by another process
abbrev pub written_by_others : List Use → LocationKey → ℕ → Bool
written_by_others uses key i = list_any (λ (u : Use). same_location_key (access_key u) key && (u.writes && not (u.proc == i))) uses

-- the table is that of these accesses
abbrev pub IsTableOf : {S : Type 0} → HashMap LocationKey Accessors S → List Use → Type 0
IsTableOf table uses = (key : LocationKey) (i : ℕ) → (others (users_in (get same_location_key table key)) i ≡ used_by_others uses key i)
    × (others (writers_in (get same_location_key table key)) i ≡ written_by_others uses key i)

-- the access races according to the table
abbrev pub racing_by : {S : Type 0} → HashMap LocationKey Accessors S → Use → Bool
racing_by table u = if u.writes then others (users_in (get same_location_key table (access_key u))) u.proc else others
    (writers_in (get same_location_key table (access_key u))) u.proc
