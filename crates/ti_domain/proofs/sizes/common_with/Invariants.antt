use Rattle.std.proofs.Common.{◌≡◌, sum_by, take}
use Rattle.ti_base.specs.Rects.{meet}
use Rattle.ti_domain.specs.Pieces.{point_count}
use Rattle.ti_domain.proofs.sizes.common_with.Given as goal

abbrev pub invariant-loop-other : goal.invariant-loop-other
invariant-loop-other l = l.total ≡ sum_by (λ s. point_count (meet l.rect s)) (take l.other-index l.others)
