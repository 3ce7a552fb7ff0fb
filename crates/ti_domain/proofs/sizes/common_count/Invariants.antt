use Rattle.std.proofs.Common.{◌≡◌, sum_by, take}
use Rattle.ti_base.specs.Rects.{meet}
use Rattle.ti_domain.specs.Pieces.{point_count}
use Rattle.ti_domain.proofs.sizes.common_count.Given as goal

abbrev pub invariant-loop-r : goal.invariant-loop-r
invariant-loop-r l = l.total ≡ sum_by (λ r. sum_by (λ s. point_count (meet r s)) l.others) (take l.r-index l.pieces)
