use Rattle.std.proofs.Common.{⊎_elim}
use Rattle.ti_base.specs.Rects.{IsIn}
use Rattle.ti_rect.proofs.Lemmas.{in_more}
use Rattle.ti_domain.proofs.StepLaws.{no_rect}
use Rattle.ti_domain.proofs.rest.all_lie_apart.Goals as goal

pub loop-r-preserved : goal.loop-r-preserved
loop-r-preserved c = λ p m o. ⊎_elim (λ n. c.loop-r.invariant p n o) (λ w. c.lies_apart.ensures c.if-not-lies_apart.false p w o)
    ((in_more IsIn c.args.rects.now c.loop-r.r-index no_rect c.loop-r-test.true p).0 m)
