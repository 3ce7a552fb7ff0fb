use Rattle.std.proofs.Common.{take}
use Rattle.ti_domain.specs.Pieces.{IsInSome}
use Rattle.ti_domain.proofs.members.dom_contains.Given as goal

abbrev pub invariant-loop-r : goal.invariant-loop-r
invariant-loop-r l = IsInSome (take l.r-index l.pieces) l.point → ⊥
