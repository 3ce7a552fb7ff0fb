use Rattle.std.proofs.Common.{◌≡◌, ◌<◌, ℕ, length, get_or}
use Rattle.ti_machine.specs.ProcView.{HasFinished}
use Rattle.ti_pending.specs.declared.pending.PendingProc.{PendingProc}
use Rattle.ti_runtime.proofs.solo.scheduler.SoloScheduler.finished_counts.Given as goal

abbrev pub invariant-loop-n : goal.invariant-loop-n
invariant-loop-n l = record {
  count : length l.done.items ≡ length l.self.processes.items;
  each : (d : PendingProc) (i : ℕ) → i < l.n → HasFinished (get_or l.self.processes.items i d).process (get_or l.done.items i 0);
}
