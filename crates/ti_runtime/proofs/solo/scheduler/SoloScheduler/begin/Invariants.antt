use Rattle.std.proofs.Common.{◌≡◌, length, []}
use Rattle.ti_lang.specs.Program.Classes.{ProgramView}
use Rattle.ti_code.specs.Follows.{Follows}
use Rattle.ti_pending.specs.UpToDate.{AllUpToDate}
use Rattle.ti_runtime.proofs.solo.scheduler.SoloScheduler.begin.Given as goal

abbrev pub invariant-loop-number : goal.invariant-loop-number
invariant-loop-number l = record {
  count : length l.processes.items ≡ l.number;
  seated : (program : ProgramView) → Follows l.code program → AllUpToDate l.code (record { program = program; procs = l.procs; fuel = l.fuel }) [] l.processes.items;
}
