use Rattle.std.proofs.Common.{take}
use Rattle.ti_base.specs.Rects.{IsIn}
use Rattle.ti_domain.specs.Pieces.{ArePiecesOf, IsInSome}
use Rattle.ti_domain.proofs.rest.minus_one.Given as goal

abbrev pub invariant-loop-r : goal.invariant-loop-r
invariant-loop-r l = ArePiecesOf l.other.dim l.left.items (λ p. IsInSome (take l.r-index l.rects) p × (IsIn l.other p → ⊥))
