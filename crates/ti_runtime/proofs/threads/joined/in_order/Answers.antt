use Rattle.std.proofs.Common.{◌≡◌, ◌∷◌, [], ◌++◌, ap, ◌∙◌, arith, length, length-append, rules}
use Rattle.std.specs.Prelude.{Some}
use Rattle.ti_runtime.proofs.Joining.{order_on, left_same}
use Rattle.ti_runtime.proofs.threads.joined.in_order.Goals as goal

pub loop-place-preserved : goal.loop-place-preserved
loop-place-preserved c =
    let all = c.args.places.items in
    let old = c.loop-place.places.items in
    let left = c.pop.new.self.items in
    let processes = c.loop-place.processes.items in
    let inv = c.loop-place.invariant in
    let pending = c.in-Some-place.pending in
    let is : old ≡ left ++ Some pending ∷ [] = c.in-Some.ensures.items ∙ ap (λ x. left ++ x ∷ []) c.in-Some-place.is in
    let more = c.push_reserved.ensures.items in
    record {
      count = omega (arith, ap length is, length-append left (Some pending ∷ []), ap length more, length-append processes (pending ∷ []), inv.count);
      room = search (rules, arith, inv.room);
      same = left_same all old left (Some pending) is inv.same;
      each = order_on all old left processes c.push_reserved.new.self.items pending is more inv.count inv.same inv.each;
    }
