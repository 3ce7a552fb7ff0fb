use Rattle.std.proofs.Common.{◌++◌, ap, ◌∙◌}
use Rattle.ti_base.specs.Rects.{IsIn}
use Rattle.ti_domain.proofs.StepLaws.{pieces_more}
use Rattle.ti_domain.proofs.rest.minus_one.Goals as goal

pub loop-r-preserved : goal.loop-r-preserved
loop-r-preserved c =
    pieces_more c.args.other.now.dim c.args.rects.now c.loop-r.r-index c.loop-r-test.true c.requires.pieces (λ p. IsIn c.args.other.now p → ⊥)
    c.loop-r.left.items c.in_ok-parts.parts.items c.in_ok-left.left.items c.loop-r.invariant c.in_ok-parts.ensures
    (c.in_ok-left.ensures ∙ ap (λ l. c.loop-r.left.items ++ l) c.as_slice.ensures.value)
