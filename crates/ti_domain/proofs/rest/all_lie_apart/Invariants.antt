use Rattle.std.proofs.Common.{take}
use Rattle.ti_base.specs.declared.point.Point.{Point}
use Rattle.ti_base.specs.Rects.{IsIn}
use Rattle.ti_domain.specs.Pieces.{IsInSome}
use Rattle.ti_domain.proofs.rest.all_lie_apart.Given as goal

abbrev pub invariant-loop-r : goal.invariant-loop-r
invariant-loop-r l = (p : Point) → IsInSome (take l.r-index l.rects) p → IsIn l.other p → ⊥
