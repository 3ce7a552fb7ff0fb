use Rattle.std.proofs.Common.{ap, ◌∙◌}
use Rattle.ti_domain.specs.Domains.{Domain}
use Rattle.ti_domain.proofs.SetLaws.{minus_kept, minus_points}
use Rattle.ti_domain.proofs.sets.dom_minus.Goals as goal

pub dom_from_pieces-requires : goal.dom_from_pieces-requires
dom_from_pieces-requires c =
    minus_kept c.args.dom.now c.args.other.now c.dom_pieces-left.result.now c.dom_pieces-right.result.now c.dom_pieces-left.ensures.domain c.dom_pieces-left.ensures.pieces c.dom_pieces-left.ensures.list
    c.dom_pieces-right.ensures.domain c.dom_pieces-right.ensures.pieces c.dom_pieces-right.ensures.list c.requires c.dim_of-dim.result c.dim_of-dim.ensures
    c.in_ok-pieces.pieces.items c.in_ok-pieces.ensures

pub returns-clause-points : goal.returns-clause-points
returns-clause-points c =
    ap (λ (d : Domain). d.points) c.dom_from_pieces.ensures
    ∙ minus_points c.args.dom.now c.args.other.now c.dom_pieces-left.result.now c.dom_pieces-right.result.now c.dom_pieces-left.ensures.domain c.dom_pieces-left.ensures.pieces c.dom_pieces-left.ensures.list
    c.dom_pieces-right.ensures.domain c.dom_pieces-right.ensures.pieces c.dom_pieces-right.ensures.list c.requires c.dim_of-dim.result c.dim_of-dim.ensures
    c.in_ok-pieces.pieces.items c.in_ok-pieces.ensures
