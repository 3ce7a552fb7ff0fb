use Rattle.std.proofs.Common.{◌≡◌, ◌<◌, List, length, set, refl, sym, ap, ◌∙◌, arith}
use Rattle.std.proofs.lemmas.Option.{slice_get_read, slice_get_within}
use Rattle.std.specs.List.{slice_get}
use Rattle.ti_heap.specs.declared.allocation.Allocation.{Allocation}
use Rattle.ti_heap.specs.Contents.{Made}
use Rattle.ti_heap.specs.Things.{put_in, changed_at, values_of, allocation_cost}
use Rattle.ti_heap.specs.Places as places
use Rattle.ti_heap.proofs.Places.{inside_put}
use Rattle.ti_heap.proofs.Lists.{set_changed}
use Rattle.ti_heap.proofs.Costs.{cost_set, some_and}
use Rattle.ti_heap.proofs.Puts.{put_made}
use Rattle.ti_heap.proofs.proc_heap.ProcHeap.put.Goals as goal
use Rattle.ti_heap.proofs.proc_heap.ProcHeap.put.Goals.{After-put}

inside : (c : After-put) → c.args.serial < length c.self.inside.things.items
inside c =
    let s = some_and (slice_get c.args.self.now c.args.serial) (λ (t : Allocation). c.args.index < length (values_of t)) c.requires in
    omega (arith, slice_get_within c.args.self.now c.args.serial s.0 s.1, ap (λ (ts : List Allocation). length ts) c.self.view_is)

-- the write changes the cell of one object or block
changed : (c : After-put) → set c.self.inside.things.items c.args.serial c.put.new.self
    ≡ changed_at c.args.serial (put_in c.args.index c.args.value) c.self.inside.things.items
changed c =
    let xs = c.self.inside.things.items in
    let n = c.args.serial in
    let t = c.index_mut-thing.result.now in
    let read = slice_get_read xs (length xs) n t refl (inside c) c.index_mut-thing.ensures.value in
    ap (λ (y : Allocation). set xs n y) c.put.ensures
    ∙ set_changed xs n (put_in c.args.index c.args.value) t read

pub invariant_of-self : goal.invariant_of-self
invariant_of-self c =
    let a = (goal.at.invariant_of-self c).After-put in
    let xs = c.self.inside.things.items in
    let i = c.args.index in
    let t = c.index_mut-thing.result.now in
    let new = c.put.new.self in
    let n = cost_set xs c.args.serial t new (inside a) c.index_mut-thing.ensures.value in
    let made = ap (λ (m : Made). m.cost) (put_made i c.args.value t) in
    let e = ap (λ (u : Allocation). allocation_cost u) c.put.ensures ∙ made in
    record {
      counted = record {
        same = omega (arith, n, e, c.self.invariant.counted.same);
        most = c.self.invariant.counted.most;
      };
      indexed = λ r pos. c.self.invariant.indexed r pos
          ∙ sym (ap (places.places_in_region r) (changed a) ∙ inside_put r c.args.serial i c.args.value xs);
    }

pub returns : goal.returns
returns c =
    changed (goal.at.returns c).After-put
    ∙ ap (changed_at c.args.serial (put_in c.args.index c.args.value)) c.self.view_is
