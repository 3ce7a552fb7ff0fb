-- Mirrors the code; only contracts of private functions cite it, so nobody has to believe it.
-- The state of each process after the entries of a run so far, and what one step does to it.
use Rattle.std.specs.Prelude.{◌≡◌, ◌↔◌, ℕ, ◌+◌, ◌-◌, ◌*◌, ◌<◌, ◌≤◌, max, true, false, List, length, Result, Ok, Err}
use Rattle.ti_base.specs.declared.entry.Entry.{Entry}
use Rattle.ti_lang.specs.Meaning.Processes.{RunConfig}
use Rattle.ti_lang.specs.Meaning.Histories.{is_fault, is_arrival, has_end, has_fault}
use Rattle.ti_lang.specs.Meaning.Runs.{IsRun, IsSolo, AllEnded}
use Rattle.ti_align.specs.Alignment.{IsAlignedRun, OfEveryRun}
use Rattle.ti_align.specs.Stopping.{RoundsBalance}
use Rattle.ti_store.specs.Stores.{StoreState, config_of}
use Rattle.ti_code.specs.Programs.{Code}
use Rattle.ti_runtime.specs.declared.solo.cursor.SoloCursor.{SoloCursor}
use Rattle.ti_runtime.specs.declared.solo.cursor.TurnOutcome.{TurnOutcome}
use Rattle.ti_runtime.specs.declared.solo.cursor.TurnOutcome.TheVariants as turn
use Rattle.ti_pending.specs.declared.pending.PendingProc.{PendingProc}
use Rattle.ti_runtime.specs.declared.solo.step.RunStop.{RunStop}
use Rattle.ti_runtime.specs.declared.solo.step.RunStop.TheVariants as stop
use Rattle.ti_runtime.specs.declared.solo.scheduler.SoloScheduler.{SoloScheduler}
use Rattle.ti_runtime.specs.declared.runner.How.{How}
use Rattle.ti_runtime.specs.declared.runner.How.TheVariants as how
use Rattle.ti_pending.specs.UpToDate.{IsUpToDate, AllUpToDate, IsBlocked}
use Rattle.ti_pending.specs.Acting.{TakesEntry, steps_left, all_steps_left, Progresses, CodePremises}
use Rattle.ti_runtime.specs.Mirrors.Waiting.{IsBlockedOrEnded}

-- ---- steps

-- process i did nothing
pub record DoesNothing (code : Code) (s : RunConfig) (es : List Entry) (i : ℕ) (old : PendingProc) (all : List Entry) (new : PendingProc) : Type 0 where
  pub entries : all ≡ es
  pub seated : IsUpToDate code s es i new
  pub as_many : steps_left s new ≡ steps_left s old

-- the run stops at process i: with its fault, or out of memory before its entry
abbrev pub StopsAt : RunConfig → List Entry → ℕ → List Entry → RunStop → Type 0
StopsAt s es i all stop.Faulted = (t : TakesEntry s es i all) × (is_fault t.entry.act ≡ true)
StopsAt s es i all stop.Memory = (all ≡ es) × (has_end i es ≡ false)

-- what a step of process i does to the entries and to the process
abbrev pub TurnLeaves : Code → RunConfig → List Entry → ℕ → PendingProc → List Entry → PendingProc → Result TurnOutcome RunStop → Type 0
TurnLeaves code s es i old all new (Ok turn.Arrived) = (g : Progresses code s es i old all new) × (is_arrival g.takes.entry.act ≡ true)
TurnLeaves code s es i old all new (Ok turn.Progressed) = (g : Progresses code s es i old all new) × (is_arrival g.takes.entry.act ≡ false)
TurnLeaves code s es i old all new (Ok turn.Finished) = DoesNothing code s es i old all new × (has_end i es ≡ true)
TurnLeaves code s es i old all new (Ok turn.Blocked) = DoesNothing code s es i old all new × IsBlocked s es i
TurnLeaves code s es i old all new (Err why) = StopsAt s es i all why × IsUpToDate code s all i new

-- the run is one of the code; and what holds of every run
pub record RunPremises (code : Code) (s : RunConfig) : Type 0 where
  pub runs : CodePremises code s
  pub aligned : OfEveryRun IsAlignedRun s.program
  pub balance : OfEveryRun RoundsBalance s.program

-- a store that accepts actions: it isn't halted
pub record IsOpen (code : Code) (store : StoreState) : Type 0 where
  pub goes_on : has_fault store.entries ≡ false
  pub may : RunPremises code (config_of store)

-- ---- all processes

-- the cursor after this outcome
abbrev pub cursor_after : SoloCursor → TurnOutcome → SoloCursor
cursor_after c turn.Arrived = record { next_proc = 0; blocked_below = c.next_proc }
cursor_after c turn.Progressed = record { next_proc = c.next_proc; blocked_below = 0 }
cursor_after c turn.Finished = record { next_proc = c.next_proc + 1; blocked_below = c.blocked_below }
cursor_after c turn.Blocked = record { next_proc = max (c.next_proc + 1) c.blocked_below; blocked_below = c.blocked_below }

-- no process before the cursor can take an entry; and if one before `blocked_below` waits, then all before `blocked_below` do
pub record Points (s : RunConfig) (es : List Entry) (c : SoloCursor) : Type 0 where
  pub most : c.next_proc ≤ s.procs
  pub few : c.blocked_below ≤ s.procs
  pub before : (i : ℕ) → i < c.next_proc → IsBlockedOrEnded s es i
  pub all_blocked : (i : ℕ) → i < c.blocked_below → IsBlocked s es i → (j : ℕ) → j < c.blocked_below → IsBlockedOrEnded s es j

-- all processes are up to date with the entries of the run so far, and the cursor is right
pub record IsSoloState (code : Code) (s : RunConfig) (es : List Entry) (processes : List PendingProc) (c : SoloCursor) : Type 0 where
  pub run : IsRun s es
  pub goes_on : has_fault es ≡ false
  pub count : length processes ≡ s.procs
  pub seated : AllUpToDate code s es processes
  pub points : Points s es c

-- how many steps there may still be: of steps that take no entry there are at most as many in a row as processes
abbrev pub turns_left : RunConfig → List PendingProc → SoloCursor → ℕ
turns_left s processes c = all_steps_left s processes * (s.procs + 1) + (s.procs - c.next_proc)

-- the run continues with fewer steps left; and if the entries before were those of the solo run, so are these
pub record SoloProgresses (code : Code) (s : RunConfig) (before : List Entry) (old : List PendingProc) (was : SoloCursor) (es : List Entry)
    (new : List PendingProc) (is : SoloCursor) : Type 0 where
  pub stands : IsSoloState code s es new is
  pub solo : IsSolo s before → IsSolo s es
  pub lighter : turns_left s new is < turns_left s old was

-- a run that stopped before all processes had ended
pub record HasStopped (code : Code) (s : RunConfig) (before es : List Entry) (processes : List PendingProc) (why : RunStop) : Type 0 where
  pub run : IsRun s es
  pub solo : IsSolo s before → IsSolo s es
  pub fault : (why ≡ stop.Faulted) ↔ (has_fault es ≡ true)
  pub unended : AllEnded s es → ⊥
  pub count : length processes ≡ s.procs
  pub seated : AllUpToDate code s es processes

-- what a step of the scheduler does to it and to the entries
abbrev pub StepLeaves : {U : Type 0} → Code → RunConfig → List Entry → SoloScheduler → List Entry → SoloScheduler → Result U RunStop → Type 0
StepLeaves code s before old all new (Ok u) = SoloProgresses code s before old.processes.items old.cursor all new.processes.items new.cursor
StepLeaves code s before old all new (Err why) = HasStopped code s before all new.processes.items why

-- ---- runs

-- how a run ended that continued after these entries
pub record SoloOutcome (code : Code) (s : RunConfig) (before es : List Entry) (processes : List PendingProc) (end : How) : Type 0 where
  pub run : IsRun s es
  pub solo : IsSolo s before → IsSolo s es
  pub ended : (end ≡ how.Ended) ↔ AllEnded s es
  pub faulted : (end ≡ how.Faulted) ↔ (has_fault es ≡ true)
  pub count : length processes ≡ s.procs
  pub seated : AllUpToDate code s es processes
