use Rattle.std.proofs.Common.{take}
use Rattle.ti_domain.specs.Pieces.{ArePiecesOf, IsInSome}
use Rattle.ti_domain.proofs.rest.minus_all.Given as goal

abbrev pub invariant-loop-other : goal.invariant-loop-other
invariant-loop-other l = ArePiecesOf l.fn.dim l.left.items (λ p. IsInSome l.fn.rects p × (IsInSome (take l.other-index l.others) p → ⊥))
