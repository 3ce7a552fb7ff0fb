use Rattle.std.proofs.Common.{◌≡◌, map}
use Rattle.ti_blame.specs.Keys.{mark_at}
use Rattle.ti_blame.proofs.solution.marks_left.Given as goal

abbrev pub invariant-loop-name : goal.invariant-loop-name
invariant-loop-name l = l.marks.items ≡ map mark_at l.yielded
