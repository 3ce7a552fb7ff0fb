use Rattle.std.proofs.Common.{◌≡◌, refl}
use Rattle.ti_blame.specs.declared.propagation.Propagation.{Propagation}
use Rattle.ti_blame.proofs.Popped.{Popped, popped_apart, popped_stays, popped_covers, popped_open, not_held}
use Rattle.ti_blame.proofs.worklist.run.Goals as goal

pub worklist-preserved : goal.worklist-preserved
worklist-preserved c =
    let i = c.worklist.invariant in
    let e = c.in_ok-propagate.ensures in
    let t : Propagation = record { assumed = c.worklist.state.assumed; worklist = c.pop.new.self; blamed = c.worklist.state.blamed; done = c.worklist.state.done } in
    let popped : Popped c.in-Some.m c.worklist.state t = record { assumed = refl; blamed = refl; done = refl; worklist = c.in-Some.ensures.items } in
    record {
      opened = λ n. popped_open c.in-Some.m c.worklist.state t popped c.args.items.now c.args.waiting.now c.propagate.new.state e.step e.gone n (i.opened n);
      apart = e.step.apart (popped_apart c.in-Some.m c.worklist.state t popped i.apart);
      done = e.done;
      stays = λ b h. i.stays b (popped_stays c.in-Some.m c.worklist.state t popped b (e.step.stays b h));
      fewer = λ n h. i.fewer n (e.step.fewer n h);
      covered = λ held fair k. e.covered held (fair c.in-Some.m (not_held c.in-Some.m c.worklist.state t popped held i.apart
          (i.covered held fair k))) (popped_covers c.in-Some.m c.worklist.state t popped held (i.covered held fair k));
    }
