use Rattle.ti_domain.specs.Pieces.{IsInSome}
use Rattle.ti_domain.proofs.StepLaws.{less_more}
use Rattle.ti_domain.proofs.rest.minus_all.Goals as goal

pub loop-other-preserved : goal.loop-other-preserved
loop-other-preserved c =
    less_more c.args.dim c.args.others.now c.loop-other.other-index c.loop-other-test.true c.requires.others (IsInSome c.args.rects.now) c.loop-other.left.items c.in_ok-left-2.left.items
    c.loop-other.invariant c.in_ok-left-2.ensures
