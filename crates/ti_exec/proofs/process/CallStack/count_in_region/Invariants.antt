use Rattle.std.proofs.Common.{◌≡◌, ℕ, ◌*◌, ◌^◌, ◌≤◌, take, reverse}
use Rattle.ti_lang.specs.Program.Classes.{ProgramView}
use Rattle.ti_lang.specs.Meaning.Steps.{named_in}
use Rattle.ti_exec.specs.States.{frames_below}
use Rattle.ti_exec.proofs.process.CallStack.count_in_region.Given as goal

abbrev pub invariant-loop-call : goal.invariant-loop-call
invariant-loop-call l = record {
  counted : (c : ProgramView) (procs : ℕ) → l.count ≡ named_in l.region (frames_below c procs (reverse (take l.call-index l.call-items)));
  small : l.count ≤ l.call-index * 2 ^ 24;
}
