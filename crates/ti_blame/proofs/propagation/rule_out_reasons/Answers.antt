use Rattle.std.proofs.Common.{◌≡◌, ◌<◌, ◌∙◌, ap, take, length, arith}
use Rattle.ti_blame.specs.Mirrors.Propagation.{left}
use Rattle.ti_blame.proofs.Stepping.{steps_trans, stays_fallen, one_more, none_at}
use Rattle.ti_blame.proofs.propagation.rule_out_reasons.Goals as goal

pub loop-b-preserved : goal.loop-b-preserved
loop-b-preserved c =
    let i = c.loop-b.invariant in
    let e = c.in_ok-rule_out_reason.ensures in
    record {
      step = steps_trans _ _ _ i.step e.step;
      gone = one_more (left c.rule_out_reason.new.state) c.args.found.now c.loop-b.b-index _ c.loop-b-test.true (stays_fallen _ _ (take c.loop-b.b-index c.args.found.now) e.step i.gone) e.gone;
      covered = λ held h k. e.covered held (none_at held c.args.found.now c.loop-b.b-index _ c.loop-b-test.true h) (i.covered held h k);
      done = c.rule_out_reason.ensures.done ∙ i.done;
    }
