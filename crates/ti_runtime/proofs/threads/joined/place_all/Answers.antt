use Rattle.std.proofs.Common.{◌-◌, ◌∙◌, arith, rules, length-set}
use Rattle.std.specs.Prelude.{Some}
use Rattle.ti_turnstile.specs.Turnstiles.{identity_of}
use Rattle.ti_runtime.specs.Mirrors.Tasks.{BelongsTo}
use Rattle.ti_runtime.proofs.Assigning.{one_longer}
use Rattle.ti_runtime.proofs.Fit.{all_before, all_last}
use Rattle.ti_runtime.proofs.Joining.{one_back, all_back}
use Rattle.ti_runtime.proofs.threads.joined.place_all.Goals as goal

pub loop-task-preserved-in-Some : goal.loop-task-preserved-in-Some
loop-task-preserved-in-Some g c =
    let id = identity_of c.args.turnstile.now in
    let code = g.J.CodeOf.code in
    let s = g.J.RunConfigOf.config in
    let inv = c.loop-task.invariant in
    let old = c.loop-task.tasks.items in
    let left = c.pop.new.self.items in
    let task = c.in-Some.task in
    let out = c.in-Some.ensures.items in
    let parts = c.into_parts-number in
    let pass = parts.result.2 in
    let passes = c.loop-task.passes.items in
    let pushed = c.push_reserved.ensures.items in
    let places = c.loop-task.places.items in
    let both = all_back code s places inv.places parts.result.0 parts.ensures.number.1 parts.result.1 passes c.push_reserved.new.self.items
    pass c.len-last.result (c.len-last.ensures ∙ c.args.places.ok.0 ∙ c.requires.places) pushed parts.ensures.number.2 parts.ensures.seated inv.placed inv.back in
    record {
      tasks = all_before (BelongsTo id) old left task out inv.tasks;
      count = omega (arith, one_longer old left task out, one_longer c.push_reserved.new.self.items passes pass pushed, inv.count);
      room = search (rules, arith, inv.room);
      turnstile = one_back id c.push_reserved.new.self.items passes pass pushed inv.turnstile (parts.ensures.turnstile ∙ all_last (BelongsTo id) old left task out inv.tasks);
      places = length-set places (c.len-last.result - 1 - parts.result.0) (Some parts.result.1) ∙ inv.places;
      placed = both.0;
      back = both.1;
    }

pub loop-task-preserved : goal.loop-task-preserved
loop-task-preserved g c =
    let id = identity_of c.args.turnstile.now in
    let code = g.J.CodeOf.code in
    let s = g.J.RunConfigOf.config in
    let inv = c.loop-task.invariant in
    let old = c.loop-task.tasks.items in
    let left = c.pop.new.self.items in
    let task = c.in-Some.task in
    let out = c.in-Some.ensures.items in
    let parts = c.into_parts-number in
    let pass = parts.result.2 in
    let passes = c.loop-task.passes.items in
    let pushed = c.push_reserved.ensures.items in
    let places = c.loop-task.places.items in
    let both = all_back code s places inv.places parts.result.0 parts.ensures.number.1 parts.result.1 passes c.push_reserved.new.self.items
    pass c.len-last.result (c.len-last.ensures ∙ c.args.places.ok.0 ∙ c.requires.places) pushed parts.ensures.number.2 parts.ensures.seated inv.placed inv.back in
    record {
      tasks = all_before (BelongsTo id) old left task out inv.tasks;
      count = omega (arith, one_longer old left task out, one_longer c.push_reserved.new.self.items passes pass pushed, inv.count);
      room = search (rules, arith, inv.room);
      turnstile = one_back id c.push_reserved.new.self.items passes pass pushed inv.turnstile (parts.ensures.turnstile ∙ all_last (BelongsTo id) old left task out inv.tasks);
      places = length-set places (c.len-last.result - 1 - parts.result.0) (Some parts.result.1) ∙ inv.places;
      placed = both.0;
      back = both.1;
    }
