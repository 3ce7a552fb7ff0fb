use Rattle.std.proofs.Common.{◌≡◌, take}
use Rattle.ti_domain.specs.Pieces.{total_count}
use Rattle.ti_domain.proofs.sizes.total.Given as goal

abbrev pub invariant-loop-r : goal.invariant-loop-r
invariant-loop-r l = l.total ≡ total_count (take l.r-index l.pieces)
