use Rattle.std.proofs.Common.{◌≡◌, ◌<◌, List, [], length, set, Option, Some, OnOk, refl, sym, ap, subst, ◌∙◌, arith}
use Rattle.std.specs.List.{slice_get}
use Rattle.std.specs.Option.{option_map, option_map_or}
use Rattle.std.proofs.lemmas.Option.{slice_get_read}
use Rattle.ti_heap.specs.declared.allocation.Allocation.{Allocation}
use Rattle.ti_heap.specs.Contents.{with_thing}
use Rattle.ti_heap.specs.Things.{thing_at, share_of, values_of, layout_of, map_of, contents, HasBacking}
use Rattle.ti_heap.proofs.Makings.{pushed_sound, pushed_contents}
use Rattle.ti_heap.proofs.heap.Heap.push.Goals as goal
use Rattle.ti_heap.proofs.heap.Heap.push.Goals.{After-push}

share : (c : After-push) → slice_get c.self.inside.shares.items c.args.id.maker ≡ Some c.index_mut-share.result.now
share c =
    let items = c.self.inside.shares.items in
    let h : c.args.id.maker < length items = omega (arith, c.requires.here, ap (λ (x : List (List Allocation)). length x) c.self.view_is) in
    slice_get_read items (length items) c.args.id.maker c.index_mut-share.result.now refl h c.index_mut-share.ensures.value

next : (c : After-push) → c.args.id.serial ≡ length c.index_mut-share.result.now
next c =
    c.requires.next ∙ ap (λ (x : List (List Allocation)). length (share_of x c.args.id.maker)) (sym c.self.view_is)
    ∙ ap (λ (o : Option (List Allocation)). length (option_map_or (λ ts. ts) o [])) (share c)

pub invariant_of-self : goal.invariant_of-self
invariant_of-self c =
    let a = (goal.at.invariant_of-self c).After-push in
    pushed_sound c.push.result c.self.inside.shares.items c.args.id c.index_mut-share.result.now c.push.new.self c.args.thing (share a) (next a) c.requires.named c.push.ensures.ok c.push.ensures.err
    c.self.invariant (subst (λ (x : List (List Allocation)). HasBacking (thing_at x) c.args.id c.args.thing) (sym c.self.view_is) c.requires.backed)

pub returns-clause-ok : goal.returns-clause-ok
returns-clause-ok c =
    let a = (goal.at.returns-clause-ok c).After-push in
    let items = c.self.inside.shares.items in
    subst (λ (x : List (List Allocation)). OnOk c.push.result (contents (set items c.args.id.maker c.push.new.self)
    ≡ with_thing c.args.id (values_of c.args.thing) (option_map map_of (layout_of c.args.thing)) (contents x)))
    c.self.view_is
    (pushed_contents c.push.result items c.args.id c.index_mut-share.result.now c.push.new.self c.args.thing (share a) (next a) c.requires.named c.push.ensures.ok c.push.ensures.err)
