use Rattle.std.proofs.Common.{◌≡◌, ◌+◌, ◌≤◌, ◌++◌, length, sym, ap, subst, ◌∙◌, arith}
use Rattle.ti_base.specs.PointSets.{union}
use Rattle.ti_domain.specs.Domains.{Domain, IsKept}
use Rattle.ti_domain.specs.Pieces.{total_count, points_in}
use Rattle.ti_domain.proofs.SetLaws.{first_count, more_small, union_points, union_count, union_kept}
use Rattle.ti_domain.proofs.sets.dom_union.Goals as goal
use Rattle.ti_domain.proofs.sets.dom_union.Goals.{After-total-2}

second_total : (c : After-total-2) → c.total-2.result ≡ total_count c.in_ok-more.more.items
second_total c = c.total-2.ensures ∙ ap total_count c.as_slice.ensures.value

-- the two counts make up the union
sum_is : (c : After-total-2) → c.total.result + c.total-2.result ≡ length (union c.args.dom.now.points c.args.other.now.points)
sum_is c = (λ i. c.total.ensures i + second_total c i)
    ∙ union_count c.args.dom.now c.args.other.now c.dom_pieces-left.result.now c.dom_pieces-right.result.now c.dom_pieces-left.ensures.domain c.dom_pieces-left.ensures.pieces c.dom_pieces-left.ensures.list
    c.dom_pieces-right.ensures.domain c.dom_pieces-right.ensures.pieces c.dom_pieces-right.ensures.list c.requires c.dim_of-dim.result c.dim_of-dim.ensures
    c.in_ok-more.more.items c.in_ok-more.ensures

pub total-requires-clause-small : goal.total-requires-clause-small
total-requires-clause-small c =
    let n = first_count c.args.dom.now c.args.other.now c.dom_pieces-left.result.now c.dom_pieces-right.result.now
    c.dom_pieces-left.ensures.domain c.dom_pieces-left.ensures.pieces c.dom_pieces-left.ensures.list
    c.dom_pieces-right.ensures.domain c.dom_pieces-right.ensures.pieces c.dom_pieces-right.ensures.list c.requires c.dim_of-dim.result c.dim_of-dim.ensures in
    let b = c.dom_pieces-left.ensures.domain.bound in
    omega arith

pub total-requires-2-clause-small : goal.total-requires-2-clause-small
total-requires-2-clause-small c = subst (λ l. total_count l ≤ 1048576) (sym c.as_slice.ensures.value)
    (more_small c.args.dom.now c.args.other.now c.dom_pieces-left.result.now c.dom_pieces-right.result.now c.dom_pieces-left.ensures.domain c.dom_pieces-left.ensures.pieces c.dom_pieces-left.ensures.list
    c.dom_pieces-right.ensures.domain c.dom_pieces-right.ensures.pieces c.dom_pieces-right.ensures.list c.requires c.dim_of-dim.result c.dim_of-dim.ensures
    c.in_ok-more.more.items c.in_ok-more.ensures)

pub overflow_add-total : goal.overflow_add-total
overflow_add-total c =
    let n = first_count c.args.dom.now c.args.other.now c.dom_pieces-left.result.now c.dom_pieces-right.result.now
    c.dom_pieces-left.ensures.domain c.dom_pieces-left.ensures.pieces c.dom_pieces-left.ensures.list
    c.dom_pieces-right.ensures.domain c.dom_pieces-right.ensures.pieces c.dom_pieces-right.ensures.list c.requires c.dim_of-dim.result c.dim_of-dim.ensures in
    let b = c.dom_pieces-left.ensures.domain.bound in
    let m = more_small c.args.dom.now c.args.other.now c.dom_pieces-left.result.now c.dom_pieces-right.result.now c.dom_pieces-left.ensures.domain
    c.dom_pieces-left.ensures.pieces c.dom_pieces-left.ensures.list
    c.dom_pieces-right.ensures.domain c.dom_pieces-right.ensures.pieces c.dom_pieces-right.ensures.list c.requires c.dim_of-dim.result c.dim_of-dim.ensures
    c.in_ok-more.more.items c.in_ok-more.ensures in
    let e = c.total.ensures in
    let f = second_total (goal.at.overflow_add-total c).After-total-2 in
    omega arith

pub returns-then-total-gt-MAX_POINTS-clause-large : goal.returns-then-total-gt-MAX_POINTS-clause-large
returns-then-total-gt-MAX_POINTS-clause-large c = λ _.
    let s = sum_is (goal.at.returns-then-total-gt-MAX_POINTS-clause-large c).After-total-2 in
    let t = c.if-total-gt-MAX_POINTS.true in
    omega arith

pub dom_from_pieces-requires : goal.dom_from_pieces-requires
dom_from_pieces-requires c =
    let own : c.in_ok-own.own.items ≡ c.dom_pieces-left.result.now = c.in_ok-own.ensures in
    let all = c.in_ok-pieces.ensures ∙ (λ i. own i ++ c.as_slice-2.ensures.value i) in
    let e = c.total.ensures in
    let f = second_total (goal.at.dom_from_pieces-requires c).After-total-2 in
    let t = c.if-total-gt-MAX_POINTS.false in
    subst (IsKept c.dim_of-dim.result) (sym all)
    (union_kept c.args.dom.now c.args.other.now c.dom_pieces-left.result.now c.dom_pieces-right.result.now c.dom_pieces-left.ensures.domain c.dom_pieces-left.ensures.pieces c.dom_pieces-left.ensures.list
    c.dom_pieces-right.ensures.domain c.dom_pieces-right.ensures.pieces c.dom_pieces-right.ensures.list c.requires c.dim_of-dim.result c.dim_of-dim.ensures
    c.in_ok-more.more.items c.in_ok-more.ensures (omega arith))

pub returns-clause-small : goal.returns-clause-small
returns-clause-small c =
    let s = sum_is (goal.at.returns-clause-small c).After-total-2 in
    let t = c.if-total-gt-MAX_POINTS.false in
    omega arith

pub returns-clause-points : goal.returns-clause-points
returns-clause-points c =
    let own : c.in_ok-own.own.items ≡ c.dom_pieces-left.result.now = c.in_ok-own.ensures in
    let all = c.in_ok-pieces.ensures ∙ (λ i. own i ++ c.as_slice-2.ensures.value i) in
    ap (λ (d : Domain). d.points) c.dom_from_pieces.ensures ∙ ap points_in all
    ∙ union_points c.args.dom.now c.args.other.now c.dom_pieces-left.result.now c.dom_pieces-right.result.now c.dom_pieces-left.ensures.domain c.dom_pieces-left.ensures.pieces c.dom_pieces-left.ensures.list
    c.dom_pieces-right.ensures.domain c.dom_pieces-right.ensures.pieces c.dom_pieces-right.ensures.list c.requires c.dim_of-dim.result c.dim_of-dim.ensures
    c.in_ok-more.more.items c.in_ok-more.ensures
