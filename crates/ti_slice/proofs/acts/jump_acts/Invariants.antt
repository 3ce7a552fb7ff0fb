use Rattle.std.proofs.Common.{◌≤◌, take, length}
use Rattle.ti_lang.specs.Program.Statements.{numbered_stms}
use Rattle.ti_lang.specs.Program.Views.{program_of, numbered_method_of}
use Rattle.ti_slice.proofs.Effects.{SameJump}
use Rattle.ti_slice.proofs.acts.jump_acts.Given as goal

abbrev pub invariant-loop-n : goal.invariant-loop-n
invariant-loop-n l = record {
  within : l.n ≤ length l.levels;
  same : SameJump (program_of l.program.parts) (numbered_method_of l.method) (numbered_stms (numbered_method_of l.method).body) l.levels (take l.n l.levels);
}

abbrev pub decreases-loop-n : goal.decreases-loop-n
decreases-loop-n l = l.n
