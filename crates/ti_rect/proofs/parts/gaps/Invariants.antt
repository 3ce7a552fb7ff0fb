use Rattle.std.proofs.Common.{◌*◌, pos, ◌+ℤ◌}
use Rattle.ti_rect.specs.Axes.{range}
use Rattle.ti_rect.specs.Parts.{IsOffBelow, AreParts}
use Rattle.ti_rect.proofs.parts.gaps.Given as goal

abbrev pub invariant-loop-t : goal.invariant-loop-t
invariant-loop-t l = AreParts l.parts.items (IsOffBelow (range l.axis) (range l.cut) (l.cut.low +ℤ pos (l.t * l.cut.step)))
