use Rattle.std.proofs.Common.{ℕ, sum_by, arith}
use Rattle.std.proofs.lemmas.List.Sums.{get_or-le-sum_by, sum_by_more, sum_by_more_le}
use Rattle.ti_base.specs.declared.point.Rect.{Rect}
use Rattle.ti_base.specs.Rects.{meet}
use Rattle.ti_domain.specs.Pieces.{point_count}
use Rattle.ti_domain.proofs.StepLaws.{no_rect}
use Rattle.ti_domain.proofs.sizes.common_count.Goals as goal

pub common_with-total-requires-clause-small : goal.common_with-total-requires-clause-small
common_with-total-requires-clause-small c =
    let f : Rect → ℕ = λ r. sum_by (λ s. point_count (meet r s)) c.args.others.now in
    let l = get_or-le-sum_by f c.args.pieces.now c.loop-r.r-index no_rect c.loop-r-test.true in
    let s = c.requires.small in
    omega arith

pub overflow_add-total : goal.overflow_add-total
overflow_add-total c =
    let f : Rect → ℕ = λ r. sum_by (λ s. point_count (meet r s)) c.args.others.now in
    let l = sum_by_more_le f c.args.pieces.now c.loop-r.r-index no_rect c.loop-r-test.true in
    let s = c.requires.small in
    let n = c.loop-r.invariant in
    let m = c.common_with-total.ensures in
    omega arith

pub loop-r-preserved : goal.loop-r-preserved
loop-r-preserved c =
    let f : Rect → ℕ = λ r. sum_by (λ s. point_count (meet r s)) c.args.others.now in
    let l = sum_by_more f c.args.pieces.now c.loop-r.r-index no_rect c.loop-r-test.true in
    let n = c.loop-r.invariant in
    let m = c.common_with-total.ensures in
    omega arith
