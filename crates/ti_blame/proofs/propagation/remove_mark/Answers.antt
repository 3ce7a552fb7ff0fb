use Rattle.std.proofs.Common.{◌≡◌, Bool, false, cond, refl, subst}
use Rattle.std.specs.BTreeMap.{is_at}
use Rattle.std.specs.BTreeSet.{contains}
use Rattle.ti_blame.specs.declared.propagation.Propagation.{Propagation}
use Rattle.ti_blame.specs.declared.mark.MarkKey.{MarkKey}
use Rattle.ti_blame.specs.Keys.{key_cmp}
use Rattle.ti_blame.proofs.Stepping.{TakesAway, steps_away, covers_away}
use Rattle.ti_blame.proofs.propagation.remove_mark.Goals as goal

pub returns-in_ok-push-clause-step : goal.returns-in_ok-push-clause-step
returns-in_ok-push-clause-step c =
    let t : Propagation = record { assumed = c.remove.new.self; worklist = c.push.new.self; blamed = c.args.state.now.blamed; done = c.args.state.now.done } in
    let P : MarkKey → Type 0 = λ k. (q : MarkKey) → contains key_cmp c.remove.new.self q ≡ cond (is_at (key_cmp k) q) false (contains key_cmp c.args.state.now.assumed q) in
    let away : TakesAway c.args.mark c.args.state.now t = record { had = subst P c.of.ensures c.remove.ensures.updates.0; noted = c.in_ok-push.ensures.items; less = c.if-remove.ensures.len; same = refl } in
    steps_away c.args.mark c.args.state.now t away

pub returns-in_ok-push-clause-covered : goal.returns-in_ok-push-clause-covered
returns-in_ok-push-clause-covered c =
    let t : Propagation = record { assumed = c.remove.new.self; worklist = c.push.new.self; blamed = c.args.state.now.blamed; done = c.args.state.now.done } in
    let P : MarkKey → Type 0 = λ k. (q : MarkKey) → contains key_cmp c.remove.new.self q ≡ cond (is_at (key_cmp k) q) false (contains key_cmp c.args.state.now.assumed q) in
    let away : TakesAway c.args.mark c.args.state.now t = record { had = subst P c.of.ensures c.remove.ensures.updates.0; noted = c.in_ok-push.ensures.items; less = c.if-remove.ensures.len; same = refl } in
    covers_away c.args.mark c.args.state.now t away
