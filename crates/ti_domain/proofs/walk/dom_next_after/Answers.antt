use Rattle.std.proofs.Common.{◌+◌, ◌⊎◌, take, get_or, option_copied, ◌∙◌}
use Rattle.std.proofs.lemmas.List.Elements.{All-take}
use Rattle.ti_base.specs.Rects.{IsIn}
use Rattle.ti_domain.specs.Pieces.{IsShape, IsInSome}
use Rattle.ti_rect.proofs.Lemmas.{in_more}
use Rattle.ti_domain.proofs.NextLaws.{sooner_is_next, agree, next_same, next_point, dim_in_some}
use Rattle.ti_domain.proofs.PieceLaws.{shapes, point_in_some}
use Rattle.ti_domain.proofs.StepLaws.{no_rect}
use Rattle.ti_domain.proofs.walk.dom_next_after.Goals as goal

pub earlier_point-next-requires : goal.earlier_point-next-requires
earlier_point-next-requires c =
    let rs = c.dom_pieces-pieces.result.now in
    let i = c.loop-r.r-index in
    let d = c.args.dom.now.dim in
    let is = c.dom_pieces-pieces.ensures.pieces in
    agree (IsInSome (take i rs)) (IsIn (get_or rs i no_rect)) (option_copied c.args.point) d c.loop-r.next c.rect_next_after.result
    (λ q m. dim_in_some d (take i rs) q (All-take (IsShape d) i rs (shapes d rs is.each)) m)
    (λ q w. w.one_dim ∙ (is.each i no_rect c.loop-r-test.true).shape.one_dim)
    c.loop-r.invariant c.rect_next_after.ensures

pub loop-r-preserved : goal.loop-r-preserved
loop-r-preserved c =
    let rs = c.dom_pieces-pieces.result.now in
    let i = c.loop-r.r-index in
    let d = c.args.dom.now.dim in
    let is = c.dom_pieces-pieces.ensures.pieces in
    let p = option_copied c.args.point in
    let M = IsInSome (take i rs) in
    let N = IsIn (get_or rs i no_rect) in
    let dims = agree M N p d c.loop-r.next c.rect_next_after.result
    (λ q m. dim_in_some d (take i rs) q (All-take (IsShape d) i rs (shapes d rs is.each)) m)
    (λ q w. w.one_dim ∙ (is.each i no_rect c.loop-r-test.true).shape.one_dim)
    c.loop-r.invariant c.rect_next_after.ensures in
    next_same (λ q. M q ⊎ N q) (IsInSome (take (i + 1) rs)) p c.earlier_point-next.result
    (λ q. let m = in_more IsIn rs i no_rect c.loop-r-test.true q in (m.1, m.0))
    (sooner_is_next M N p c.loop-r.next c.rect_next_after.result c.earlier_point-next.result dims c.loop-r.invariant c.rect_next_after.ensures c.earlier_point-next.ensures)

pub returns-clause-point : goal.returns-clause-point
returns-clause-point c =
    let rs = c.dom_pieces-pieces.result.now in
    let i = c.loop-r.r-index in
    let d = c.args.dom.now.dim in
    next_point (IsInSome (take i rs)) (option_copied c.args.point) c.loop-r.next
    (λ q m. point_in_some d (take i rs) q (All-take (IsShape d) i rs (shapes d rs c.dom_pieces-pieces.ensures.pieces.each)) m) c.loop-r.invariant
