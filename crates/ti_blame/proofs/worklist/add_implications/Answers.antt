use Rattle.std.proofs.Common.{◌≡◌, take, length}
use Rattle.ti_blame.specs.Implications.{is_violated}
use Rattle.ti_blame.proofs.Stepping.{steps_trans, one_more, none_at}
use Rattle.ti_blame.proofs.Opened.{steps_kept}
use Rattle.ti_blame.proofs.worklist.add_implications.Goals as goal

pub loop-e-preserved : goal.loop-e-preserved
loop-e-preserved c =
    let i = c.loop-e.invariant in
    let b = c.in_ok-add_implication.ensures in
    record {
      step = steps_trans _ _ _ i.step b.step;
      kept = λ test h. one_more test c.args.implications.now c.loop-e.e-index _ c.loop-e-test.true
          (i.kept test (λ e k. h e (steps_kept c.args.items.now c.loop-e.state c.add_implication.new.state c.loop-e.waiting c.add_implication.new.waiting e b.step
          b.wider k))) (h _ b.kept);
      opened = λ n. b.opened n (i.opened n);
      fair = λ held keeps k. b.fair held (none_at (is_violated held c.args.items.now) c.args.implications.now c.loop-e.e-index _ c.loop-e-test.true keeps) (i.fair held keeps k);
      covered = λ held keeps k. b.covered held (none_at (is_violated held c.args.items.now) c.args.implications.now c.loop-e.e-index _ c.loop-e-test.true keeps) (i.covered held keeps k);
      done = b.done;
    }
