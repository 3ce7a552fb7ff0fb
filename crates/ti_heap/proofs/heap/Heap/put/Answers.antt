use Rattle.std.proofs.Common.{◌≡◌, IsSome, List, set, Some, sym, subst}
use Rattle.std.specs.List.{slice_get}
use Rattle.ti_heap.specs.declared.allocation.Allocation.{Allocation}
use Rattle.ti_heap.specs.Contents.{cell_at, with_cell_value}
use Rattle.ti_heap.specs.Things.{thing_at, value_in_cell, contents}
use Rattle.ti_heap.proofs.Puts.{written_contents, written_sound, share_then, held_then}
use Rattle.ti_heap.proofs.Names.{live_then}
use Rattle.ti_heap.proofs.Costs.{read_there}
use Rattle.ti_heap.proofs.heap.Heap.put.Goals as goal
use Rattle.ti_heap.proofs.heap.Heap.put.Goals.{After-put}

some : (c : After-put) → IsSome (value_in_cell (thing_at c.self.inside.shares.items) (cell_at c.args.id c.args.index))
some c = subst (λ (h : List (List Allocation)). IsSome (value_in_cell (thing_at h) (cell_at c.args.id c.args.index))) (sym c.self.view_is) c.requires

share : (c : After-put) → slice_get c.self.inside.shares.items c.args.id.maker ≡ Some c.index_mut-share.result.now
share c =
    let k = held_then (thing_at c.self.inside.shares.items) c.args.id c.args.index (some c) in
    let s = share_then c.self.inside.shares.items c.args.id.maker c.args.id.serial k.0 (live_then (thing_at c.self.inside.shares.items) c.args.id k.0 k.1).0 in
    read_there c.self.inside.shares.items c.args.id.maker s.0 c.index_mut-share.result.now s.1 c.index_mut-share.ensures.value

pub invariant_of-self : goal.invariant_of-self
invariant_of-self c =
    let a = (goal.at.invariant_of-self c).After-put in
    written_sound c.self.inside.shares.items c.args.id c.args.index c.args.value c.index_mut-share.result.now c.put.new.self (share a) c.put.ensures (some a) c.self.invariant

pub returns : goal.returns
returns c =
    let a = (goal.at.returns c).After-put in
    let items = c.self.inside.shares.items in
    subst (λ (h : List (List Allocation)). contents (set items c.args.id.maker c.put.new.self) ≡ with_cell_value (cell_at c.args.id c.args.index) c.args.value (contents h)) c.self.view_is
    (written_contents items c.args.id c.args.index c.args.value c.index_mut-share.result.now c.put.new.self (share a) c.put.ensures (some a))
