use Rattle.std.proofs.Common.{◌*◌, ◌≤◌, length, take}
use Rattle.ti_domain.specs.Pieces.{ArePiecesOf, IsInSome}
use Rattle.ti_domain.proofs.meets.meets.Given as goal

abbrev pub invariant-loop-r : goal.invariant-loop-r
invariant-loop-r l = record {
  pieces : ArePiecesOf l.fn.dim l.common.items (λ p. IsInSome (take l.r-index l.rects) p × IsInSome l.others p);
  number : length l.common.items ≤ l.r-index * length l.others;
}
