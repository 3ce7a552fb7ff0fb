use Rattle.std.proofs.Common.{take, option_copied}
use Rattle.ti_domain.specs.Pieces.{IsInSome}
use Rattle.ti_domain.specs.Walks.{IsNextPoint}
use Rattle.ti_domain.proofs.walk.dom_next_after.Given as goal

abbrev pub invariant-loop-r : goal.invariant-loop-r
invariant-loop-r l = IsNextPoint (IsInSome (take l.r-index l.pieces)) (option_copied l.point) l.next
