-- The invariant of a store. Used only by contracts of private functions and the invariant.
use Rattle.std.specs.Prelude.{◌≡◌, ℕ, Bool}
use Rattle.ti_lang.specs.Program.Classes.{ProgramView}
use Rattle.ti_lang.specs.Meaning.Processes.{RunConfig}
use Rattle.ti_lang.specs.Meaning.Histories.{has_fault}
use Rattle.ti_lang.specs.Meaning.Runs.{IsRun}
use Rattle.ti_align.specs.Alignment.{ArrivalsAgree, OfEveryRun}
use Rattle.ti_align.specs.Stopping.{RoundsBalance, NoneImpossible}
use Rattle.ti_align.specs.Heap.{FieldsFit, FieldsStorable}
use Rattle.ti_align.specs.Typed.{RunTyped}
use Rattle.ti_align.specs.Formed.{ActionsFormed}
use Rattle.ti_align.specs.Dangling.{NothingDangles}
use Rattle.ti_store.specs.declared.run_state.RunState.{RunState}
use Rattle.ti_store.specs.Conditions.{IsWithinRunLimits}
use Rattle.ti_store.specs.Stores.{StoreState}
use Rattle.ti_store.specs.Mirrors.Parts.{program_in, history_in, Represents}

-- what is known of a checked program and of its runs
pub record KeepsLaws (program : ProgramView) : Type 0 where
  pub possible : OfEveryRun NoneImpossible program
  pub balance : OfEveryRun RoundsBalance program
  pub agree : OfEveryRun ArrivalsAgree program
  pub typed : OfEveryRun RunTyped program
  pub formed : OfEveryRun ActionsFormed program
  pub fields : FieldsFit program
  pub storable : FieldsStorable program
  pub dangles : OfEveryRun NothingDangles program

-- what contracts see
abbrev pub state_of : RunState → ℕ → Bool → StoreState
state_of l fuel halted = record { program = l.program.parts; procs = l.procs; fuel = fuel; entries = l.entries.items; halted = halted }

abbrev pub config_in : RunState → ℕ → RunConfig
config_in l fuel = record { program = program_in l; procs = l.procs; fuel = fuel }

-- the history is a run, and the parts are those of the history
pub record IsRunState (l : RunState) (fuel : ℕ) (faulted : Bool) : Type 0 where
  pub within : IsWithinRunLimits l.procs fuel
  pub laws : KeepsLaws (program_in l)
  pub run : IsRun (config_in l fuel) l.entries.items
  pub faulted_is : faulted ≡ has_fault l.entries.items
  pub kept : Represents l (history_in l)

-- the run state's invariant holds, and the store is of this configuration
pub record IsStore (l : RunState) (fuel : ℕ) (faulted : Bool) (terms : RunConfig) : Type 0 where
  pub run_state : IsRunState l fuel faulted
  pub terms_are : config_in l fuel ≡ terms
