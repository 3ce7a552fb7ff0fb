use Rattle.std.proofs.Common.{◌≡◌, ◌∷◌, [], ap, ◌∙◌, arith}
use Rattle.std.specs.List.{sum_by}
use Rattle.std.proofs.lemmas.List.Sums.{sum_by-append}
use Rattle.ti_turnstile.specs.Turnstiles.{identity_of}
use Rattle.ti_runtime.proofs.Fit.{all_before}
use Rattle.ti_runtime.proofs.threads.spawn.collect.Goals as goal

pub loop-handle-preserved : goal.loop-handle-preserved
loop-handle-preserved g c =
    let table = identity_of c.args.turnstile.now in
    let old = c.loop-handle.handles.items in
    let left = c.pop.new.self.items in
    let handle = c.in-Some.handle in
    let items = c.in-Some.ensures.items in
    let inv = c.loop-handle.invariant in
    let sum = ap (λ l. sum_by (λ h. h.promise.count) l) items ∙ sum_by-append (λ h. h.promise.count) left (handle ∷ []) in
    let kept = c.join-back.ensures in
    record {
      all = c.give.ensures.tasks;
      handles = all_before (λ h. identity_of h.promise.turnstile.now ≡ table) old left handle items inv.handles;
      count = omega (arith, sum, inv.count, c.give.ensures.count, kept.1);
      room = omega (arith, sum, inv.room, c.give.ensures.count, c.give.ensures.room, kept.1, c.give.new.mine.ok.0, c.loop-handle.all.ok.0);
    }
