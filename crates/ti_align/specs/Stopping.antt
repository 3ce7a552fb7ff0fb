-- That no action of a run is impossible, which collectives a process has left, and which regions its variables hold.
use Rattle.std.specs.Prelude.{◌≡◌, ℕ, ◌+◌, ◌<◌, Bool, true, false, if◌then◌else◌, List, [], ◌∷◌, Option, Some}
use Rattle.ti_base.specs.declared.place.Place.{Place}
use Rattle.ti_base.specs.declared.value.Value.TheVariants as v
use Rattle.ti_base.specs.declared.action.Deposit.{Deposit}
use Rattle.ti_lang.specs.Program.Types as t
use Rattle.ti_lang.specs.Meaning.Held.{Plain}
use Rattle.ti_lang.specs.Meaning.Scoping.{declared_type}
use Rattle.ti_lang.specs.Meaning.RegionsOf.{is_made}
use Rattle.ti_base.specs.declared.action.Action.{Action}
use Rattle.ti_base.specs.declared.action.Action.TheVariants as act
use Rattle.ti_base.specs.declared.action.CollKind.TheVariants as coll
use Rattle.ti_base.specs.declared.entry.Entry.{Entry}
use Rattle.ti_base.specs.declared.entry.Next.TheVariants as next
use Rattle.ti_lang.specs.Meaning.Processes.{RunConfig, Variable, Frame, Process}
use Rattle.ti_lang.specs.Meaning.NextStep.{IsNext}
use Rattle.ti_lang.specs.Meaning.Histories.{History, history_of, is_departure, arrivals, departures}
use Rattle.ti_lang.specs.Meaning.HeapAnswers.{Impossible, heap_answer}
use Rattle.ti_lang.specs.Meaning.Runs.{ProcAfter, IsReady}

-- an arrival at the delete of a region
abbrev pub is_delete_arrival : Action → Bool
is_delete_arrival (act.Arrive coll.DeleteRegion arg given) = true
is_delete_arrival a = false

-- a process has left each collective that it reached, except the one that it leaves next, if it leaves one next
abbrev pub RoundsBalance : RunConfig → List Entry → Type 0
RoundsBalance s es = (i : ℕ) (p : Process) (at : Place) (a : Action) → ProcAfter s es i p → IsNext p (next.Act at a) → arrivals i es
    ≡ departures i es + (if is_departure a then 1 else 0)

-- each action for which its process needn't wait yields an answer or a fault
abbrev pub NoneImpossible : RunConfig → List Entry → Type 0
NoneImpossible s es =
    (i : ℕ) (p : Process) (at : Place) (a : Action) → i < s.procs → ProcAfter s es i p → IsNext p (next.Act at a)
    → IsReady s es i (next.Act at a)
    → heap_answer s.program (history_of es) i a ≡ Impossible → ⊥

-- ---- regions

-- each variable of type region holds a region that was made
abbrev pub HoldMade : History → List Variable → Type 0
HoldMade h [] = Unit {0}
HoldMade h (x ∷ xs) =
    (declared_type x.named.declared ≡ t.Region → (r : ℕ) × (x.held ≡ Plain (v.Region r)) × (is_made r h ≡ true)) × HoldMade h xs

-- so do the variables of all these frames
abbrev pub AllHoldMade : History → List Frame → Type 0
AllHoldMade h [] = Unit {0}
AllHoldMade h (f ∷ fs) = HoldMade h f.variables × AllHoldMade h fs

-- each region that a variable holds, and each that a process is about to delete, was made
pub record RegionsMade (s : RunConfig) (es : List Entry) : Type 0 where
  pub held : (i : ℕ) (p : Process) → i < s.procs → ProcAfter s es i p → AllHoldMade (history_of es) p.frames
  pub deleted : (i : ℕ) (p : Process) (at : Place) (arg : Option ℕ) (given : Deposit) → i < s.procs → ProcAfter s es i p
      → IsNext p (next.Act at (act.Arrive coll.DeleteRegion arg given))
      → (r : ℕ) × (arg ≡ Some r) × (is_made r (history_of es) ≡ true)
