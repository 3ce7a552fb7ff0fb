use Rattle.ti_eval.proofs.MemberLaws.{tells_in, other_dim_in}
use Rattle.ti_eval.proofs.members.rect_has.Goals as goal

pub returns-then-point-rect : goal.returns-then-point-rect
returns-then-point-rect c = other_dim_in c.args.rect.now c.args.point.now c.requires c.if-point-rect.true

pub returns : goal.returns
returns c = tells_in _ c.args.rect.now c.args.point.now c.requires c.rect_contains.ensures
