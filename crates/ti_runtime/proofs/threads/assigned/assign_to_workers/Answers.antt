use Rattle.std.proofs.Common.{◌<◌, sym, ap, ◌∙◌, arith}
use Rattle.ti_turnstile.specs.Turnstiles.{identity_of}
use Rattle.ti_runtime.proofs.Assigning.{last_pass, one_longer, begins_here, seated_here}
use Rattle.ti_runtime.proofs.threads.assigned.assign_to_workers.Goals as goal

pub take-requires-clause-number : goal.take-requires-clause-number
take-requires-clause-number g c =
    let left = c.pop.new.self in
    omega (arith, c.len-number.ensures ∙ left.ok.0, one_longer _ left.items c.in-Some.pass c.in-Some.ensures.items, c.loop-pass.invariant.count, c.requires.procs, c.requires.may.runs.within.few)

pub take-requires-clause-procs : goal.take-requires-clause-procs
take-requires-clause-procs g c = omega (arith, c.requires.procs, c.requires.may.runs.within.few)

pub take-requires-clause-goes : goal.take-requires-clause-goes
take-requires-clause-goes g c =
    let left = c.pop.new.self in
    let inside : c.len-number.result < g.J.RunConfigOf.config.procs = omega (
      arith,
      c.len-number.ensures ∙ left.ok.0,
      one_longer _ left.items c.in-Some.pass c.in-Some.ensures.items,
      c.loop-pass.invariant.count,
      c.requires.procs,
    ) in
    begins_here g.J.CodeOf.code c.args.code.now g.J.RunConfigOf.config c.args.procs c.args.fuel c.len-number.result c.requires.may c.requires.code c.requires.procs c.requires.fuel inside

pub new-task-requires-clause-number : goal.new-task-requires-clause-number
new-task-requires-clause-number g c =
    let left = c.pop.new.self in
    omega (arith, c.len-number.ensures ∙ left.ok.0, one_longer _ left.items c.in-Some.pass c.in-Some.ensures.items, c.loop-pass.invariant.count, c.requires.procs)

pub new-task-requires-clause-same : goal.new-task-requires-clause-same
new-task-requires-clause-same g c =
    let left = c.pop.new.self in
    (last_pass (identity_of c.args.turnstile.now) _ left.items c.in-Some.pass c.in-Some.ensures.items c.loop-pass.invariant.passes).1 ∙ sym (c.len-number.ensures ∙ left.ok.0)

pub new-task-requires-clause-seen : goal.new-task-requires-clause-seen
new-task-requires-clause-seen g c = (last_pass (identity_of c.args.turnstile.now) _ c.pop.new.self.items c.in-Some.pass c.in-Some.ensures.items c.loop-pass.invariant.passes).2

pub new-task-requires-clause-seated : goal.new-task-requires-clause-seated
new-task-requires-clause-seated g c =
    let left = c.pop.new.self in
    let inside : c.len-number.result < g.J.RunConfigOf.config.procs = omega (
      arith,
      c.len-number.ensures ∙ left.ok.0,
      one_longer _ left.items c.in-Some.pass c.in-Some.ensures.items,
      c.loop-pass.invariant.count,
      c.requires.procs,
    ) in
    seated_here g.J.CodeOf.code c.args.code.now g.J.RunConfigOf.config c.args.procs c.args.fuel c.len-number.result c.requires.may
    c.requires.code c.requires.procs c.requires.fuel inside c.in_ok-pending.pending c.in_ok-pending.ensures

pub put-requires-clause-task : goal.put-requires-clause-task
put-requires-clause-task g c = ap (λ r. r.turnstile) c.new-task.ensures
    ∙ (last_pass (identity_of c.args.turnstile.now) _ c.pop.new.self.items c.in-Some.pass c.in-Some.ensures.items
    c.loop-pass.invariant.passes).0

pub loop-pass-preserved : goal.loop-pass-preserved
loop-pass-preserved g c =
    let left = c.pop.new.self.items in
    let items = c.in-Some.ensures.items in
    let inv = c.loop-pass.invariant in
    record {
      groups = c.in_ok-put.ensures.groups;
      length_is = c.in_ok-put.ensures.length ∙ inv.length_is;
      passes = (last_pass (identity_of c.args.turnstile.now) _ left c.in-Some.pass items inv.passes).3;
      count = omega (arith, c.in_ok-put.ensures.count, one_longer _ left c.in-Some.pass items, inv.count);
    }
