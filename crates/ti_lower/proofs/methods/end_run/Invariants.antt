use Rattle.std.proofs.Common.{◌≡◌, ◌++◌, length, map, take, drop}
use Rattle.ti_lower.specs.Programs.{in_main}
use Rattle.ti_lower.proofs.methods.end_run.Given as goal

-- those behind the turn are still to be changed
abbrev pub invariant-loop-i : goal.invariant-loop-i
invariant-loop-i l = record {
  count : length l.instrs ≡ length l.initial.instrs;
  rest : take l.i l.instrs ++ map (in_main l.end) (drop l.i l.instrs) ≡ map (in_main l.end) l.initial.instrs;
}
