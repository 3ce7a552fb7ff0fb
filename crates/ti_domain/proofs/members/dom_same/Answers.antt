use Rattle.std.proofs.Common.{length, sym, ap, ◌∙◌, arith}
use Rattle.std.proofs.lemmas.Bool.{eqb-true, eq-eqb}
use Rattle.ti_base.specs.PointSets.{meet}
use Rattle.ti_domain.proofs.SetLaws.{first_count, second_count, counts_common, common_small}
use Rattle.ti_domain.proofs.PieceLaws.{same_counts, counts_same}
use Rattle.ti_domain.proofs.members.dom_same.Goals as goal

pub total-count-requires-clause-small : goal.total-count-requires-clause-small
total-count-requires-clause-small c =
    let n = first_count c.args.dom.now c.args.other.now c.dom_pieces-left.result.now c.dom_pieces-right.result.now
    c.dom_pieces-left.ensures.domain c.dom_pieces-left.ensures.pieces c.dom_pieces-left.ensures.list
    c.dom_pieces-right.ensures.domain c.dom_pieces-right.ensures.pieces c.dom_pieces-right.ensures.list c.requires c.dim_of-dim.result c.dim_of-dim.ensures in
    let b = c.dom_pieces-left.ensures.domain.bound in
    omega arith

pub total-requires-clause-small : goal.total-requires-clause-small
total-requires-clause-small c =
    let n = second_count c.args.dom.now c.args.other.now c.dom_pieces-left.result.now c.dom_pieces-right.result.now
    c.dom_pieces-left.ensures.domain c.dom_pieces-left.ensures.pieces c.dom_pieces-left.ensures.list
    c.dom_pieces-right.ensures.domain c.dom_pieces-right.ensures.pieces c.dom_pieces-right.ensures.list c.requires c.dim_of-dim.result c.dim_of-dim.ensures in
    let b = c.dom_pieces-right.ensures.domain.bound in
    omega arith

pub returns-then-total-count : goal.returns-then-total-count
returns-then-total-count c =
    let n = first_count c.args.dom.now c.args.other.now c.dom_pieces-left.result.now c.dom_pieces-right.result.now
    c.dom_pieces-left.ensures.domain c.dom_pieces-left.ensures.pieces c.dom_pieces-left.ensures.list
    c.dom_pieces-right.ensures.domain c.dom_pieces-right.ensures.pieces c.dom_pieces-right.ensures.list c.requires c.dim_of-dim.result c.dim_of-dim.ensures in
    let m = second_count c.args.dom.now c.args.other.now c.dom_pieces-left.result.now c.dom_pieces-right.result.now
    c.dom_pieces-left.ensures.domain c.dom_pieces-left.ensures.pieces c.dom_pieces-left.ensures.list
    c.dom_pieces-right.ensures.domain c.dom_pieces-right.ensures.pieces c.dom_pieces-right.ensures.list c.requires c.dim_of-dim.result c.dim_of-dim.ensures in
    (λ e. cc, λ e. absurd (c.if-total-count.true (c.total.ensures ∙ m ∙ ap length (sym e) ∙ sym n ∙ sym c.total-count.ensures)))

pub common_count-requires-clause-small : goal.common_count-requires-clause-small
common_count-requires-clause-small c = common_small c.args.dom.now c.args.other.now c.dom_pieces-left.result.now c.dom_pieces-right.result.now
    c.dom_pieces-left.ensures.domain c.dom_pieces-left.ensures.pieces c.dom_pieces-left.ensures.list
    c.dom_pieces-right.ensures.domain c.dom_pieces-right.ensures.pieces c.dom_pieces-right.ensures.list c.requires c.dim_of-dim.result c.dim_of-dim.ensures

pub returns : goal.returns
returns c =
    let p = c.args.dom.now.points in
    let q = c.args.other.now.points in
    let n = c.total-count.ensures ∙ first_count c.args.dom.now c.args.other.now c.dom_pieces-left.result.now c.dom_pieces-right.result.now
    c.dom_pieces-left.ensures.domain c.dom_pieces-left.ensures.pieces c.dom_pieces-left.ensures.list
    c.dom_pieces-right.ensures.domain c.dom_pieces-right.ensures.pieces c.dom_pieces-right.ensures.list c.requires c.dim_of-dim.result c.dim_of-dim.ensures in
    let m = c.total.ensures ∙ second_count c.args.dom.now c.args.other.now c.dom_pieces-left.result.now c.dom_pieces-right.result.now
    c.dom_pieces-left.ensures.domain c.dom_pieces-left.ensures.pieces c.dom_pieces-left.ensures.list
    c.dom_pieces-right.ensures.domain c.dom_pieces-right.ensures.pieces c.dom_pieces-right.ensures.list c.requires c.dim_of-dim.result c.dim_of-dim.ensures in
    let k = c.common_count.ensures ∙ counts_common c.args.dom.now c.args.other.now c.dom_pieces-left.result.now c.dom_pieces-right.result.now
    c.dom_pieces-left.ensures.domain c.dom_pieces-left.ensures.pieces c.dom_pieces-left.ensures.list
    c.dom_pieces-right.ensures.domain c.dom_pieces-right.ensures.pieces c.dom_pieces-right.ensures.list c.requires c.dim_of-dim.result c.dim_of-dim.ensures in
    let up = c.dom_pieces-left.ensures.domain.domain.rises in
    let up' = c.dom_pieces-right.ensures.domain.domain.rises in (
      λ t. same_counts p q up up' (sym k ∙ eqb-true c.common_count.result c.total-count.result t ∙ n) (sym m ∙ c.if-total-count.false ∙ n),
      λ e. eq-eqb c.common_count.result c.total-count.result (k ∙ ap (λ l. length (meet p l)) (sym e) ∙ ap length (counts_same p up) ∙ sym n),
    )
