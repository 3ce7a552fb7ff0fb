-- How the canonical run of a worked example ends, and what it prints.
use Rattle.std.specs.Prelude.{◌≡◌, ℕ, zero, suc, ◌+◌, ◌&&◌, if◌then◌else◌, Bool, true, List, [], ◌∷◌, Option, None, Some}
use Rattle.ti_base.specs.declared.place.Place.{Place}
use Rattle.ti_base.specs.declared.fault.FaultKind.{FaultKind}
use Rattle.ti_base.specs.declared.action.Action.{Action}
use Rattle.ti_base.specs.declared.action.Action.TheVariants as act
use Rattle.ti_base.specs.declared.entry.Entry.{Entry}
use Rattle.ti_lang.specs.Meaning.Processes.{RunConfig}
use Rattle.ti_lang.specs.Meaning.Histories.{has_end}
use Rattle.ti_lang.specs.Meaning.Lines.{lines_of}
use Rattle.ti_rows.specs.Simulation.{solo}

-- the lines of a run, and how it ended: all processes have ended, or one has faulted; or it isn't complete
pub data RunOutcome : Type 0 where
  Ended : (lines : List ℕ) → RunOutcome
  Faulted : (lines : List ℕ) (kind : FaultKind) (proc : ℕ) (at : Place) → RunOutcome
  Unfinished : (lines : List ℕ) → RunOutcome

-- all of n processes, from number i on, have ended
abbrev pub have_ended : List Entry → ℕ → ℕ → Bool
have_ended es i zero = true
have_ended es i (suc n) = has_end i es && have_ended es (i + 1) n

-- the entry if it is a fault, otherwise the later one
abbrev pub fault_in : Entry → Action → Option Entry → Option Entry
fault_in e (act.Fault kind) more = Some e
fault_in e a more = more

-- the first fault among the entries
abbrev pub fault_of : List Entry → Option Entry
fault_of [] = None
fault_of (e ∷ es) = fault_in e e.act (fault_of es)

-- the outcome at an entry that is a fault
abbrev pub faulted_run : List ℕ → ℕ → Place → Action → RunOutcome
faulted_run lines i at (act.Fault kind) = Faulted lines kind i at
faulted_run lines i at a = Unfinished lines

-- the outcome with a fault, if there is one
abbrev pub by_fault : RunConfig → List Entry → List ℕ → Option Entry → RunOutcome
by_fault s es lines (Some e) = faulted_run lines e.proc e.place e.act
by_fault s es lines None = if have_ended es 0 s.procs then Ended lines else Unfinished lines

-- the outcome of a list of entries
abbrev pub run_outcome : RunConfig → List Entry → RunOutcome
run_outcome s es = by_fault s es (lines_of s.program es) (fault_of es)

-- the run, of at most 1,000 entries, prints this, and all processes end
abbrev pub Prints : RunConfig → List ℕ → Type 0
Prints s text = run_outcome s (solo s 1000) ≡ Ended text

-- the run, of at most 1,000 entries, prints this and ends with a fault
abbrev pub FaultsBehind : RunConfig → List ℕ → FaultKind → ℕ → Place → Type 0
FaultsBehind s text kind proc at = run_outcome s (solo s 1000) ≡ Faulted text kind proc at

-- the run, of at most 1,000 entries, has these
abbrev pub Makes : RunConfig → List Entry → Type 0
Makes s es = solo s 1000 ≡ es
