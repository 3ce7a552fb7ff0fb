use Rattle.std.proofs.Common.{◌∙◌, sym}
use Rattle.ti_eval.proofs.MemberLaws.{tells_among, other_dim_among}
use Rattle.ti_eval.proofs.members.domain_has.Goals as goal

pub returns-then-point-dim_of : goal.returns-then-point-dim_of
returns-then-point-dim_of c =
    other_dim_among c.args.domain.now.dim c.args.domain.now.points c.args.point.now c.dom_pieces-pieces.ensures.domain.domain.one_dim (λ e. c.if-point-dim_of.true (e ∙ sym c.dim_of.ensures))

pub returns : goal.returns
returns c = tells_among _ c.args.domain.now.points c.args.point.now c.dom_contains.ensures
