use Rattle.std.proofs.Common.{◌≡◌, ◌<◌, ◌∙◌, ap, take, length}
use Rattle.std.specs.List.{list_any}
use Rattle.ti_blame.specs.Implications.{meaning}
use Rattle.ti_blame.specs.Mirrors.Propagation.{left}
use Rattle.ti_blame.proofs.Stepping.{steps_trans, one_more, none_at}
use Rattle.ti_blame.proofs.Opened.{still_fallen}
use Rattle.ti_blame.proofs.worklist.rule_out_conclusions.Goals as goal

pub loop-what-preserved : goal.loop-what-preserved
loop-what-preserved c =
    let i = c.loop-what.invariant in
    let e = c.in_ok-rule_out_conclusion.ensures in
    record {
      step = steps_trans _ _ _ i.step e.step;
      gone = one_more (λ t. list_any (left c.rule_out_conclusion.new.state) (meaning c.args.items.now t)) c.args.found.now c.loop-what.what-index _
          c.loop-what-test.true (still_fallen c.args.items.now _ _ e.step (take c.loop-what.what-index c.args.found.now) i.gone) e.gone;
      covered = λ held h k. e.covered held (none_at (λ t. list_any held (meaning c.args.items.now t)) c.args.found.now c.loop-what.what-index _ c.loop-what-test.true h) (i.covered held h k);
      done = e.done;
    }
