use Rattle.std.proofs.Common.{◌≤◌, length, take}
use Rattle.ti_base.specs.Rects.{IsIn}
use Rattle.ti_domain.specs.Pieces.{ArePiecesOf, IsInSome}
use Rattle.ti_domain.proofs.meets.meets_with.Given as goal

abbrev pub invariant-loop-other : goal.invariant-loop-other
invariant-loop-other l = record {
  pieces : ArePiecesOf l.rect.dim l.common.items (λ p. IsIn l.rect p × IsInSome (take l.other-index l.others) p);
  number : length l.common.items ≤ l.other-index;
}
