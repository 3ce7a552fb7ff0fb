-- How a run ended.
use Rattle.std.specs.Prelude.{◌≡◌, ◌≢◌, ◌↔◌, ℕ, true, List, length, Some, slice_get}
use Rattle.ti_base.specs.declared.entry.Entry.{Entry}
use Rattle.ti_lang.specs.Meaning.Processes.{RunConfig}
use Rattle.ti_lang.specs.Meaning.Histories.{has_fault}
use Rattle.ti_lang.specs.Meaning.Runs.{IsRun, IsSolo, AllEnded}
use Rattle.ti_code.specs.Programs.{Code}
use Rattle.ti_machine.specs.ProcView.{HasFinished}
pub use Rattle.ti_pending.specs.Views.{proc_view_after}
use Rattle.ti_runtime.specs.declared.runner.How.TheVariants.{Ended, Faulted, Memory}
use Rattle.ti_runtime.specs.declared.runner.RunEnd.{RunEnd}

-- for each process, in the order of their numbers, how many instructions of the code it has finished for these answers
pub record AreFinishedCounts (code : Code) (s : RunConfig) (es : List Entry) (done : List ℕ) : Type 0 where
  pub count : length done ≡ s.procs
  pub each : (i n : ℕ) → slice_get done i ≡ Some n → HasFinished (proc_view_after code s es i) n

-- The history is a run, and with one worker, as far as it goes, the one in which each entry is that of the lowest-numbered process that can
-- take one. It ended exactly where all processes have their end, and with a fault exactly where it has one; otherwise it ran out of memory.
-- Unless it did, the numbers of finished instructions are told.
pub record Ran (code : Code) (s : RunConfig) (workers : ℕ) (end : RunEnd) : Type 0 where
  pub run : IsRun s end.history.items
  pub solo : workers ≡ 1 → IsSolo s end.history.items
  pub ended : (end.how ≡ Ended) ↔ AllEnded s end.history.items
  pub faulted : (end.how ≡ Faulted) ↔ (has_fault end.history.items ≡ true)
  pub done : end.how ≢ Memory → AreFinishedCounts code s end.history.items end.done.items
