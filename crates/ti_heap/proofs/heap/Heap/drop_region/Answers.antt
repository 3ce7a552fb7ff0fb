use Rattle.std.proofs.Common.{◌≡◌, ℕ, ◌<◌, List, map, length, set, refl, sym, ap, subst, ◌∙◌, arith}
use Rattle.std.proofs.Math.Numerals.{add-one}
use Rattle.std.proofs.lemmas.Option.{slice_get_read}
use Rattle.ti_heap.specs.declared.allocation.Allocation.{Allocation}
use Rattle.ti_heap.specs.Contents.{without_region}
use Rattle.ti_heap.specs.Things.{drop_if_in, changed_at, thing_at, contents, HaveBlocks}
use Rattle.ti_heap.proofs.Lists.{front_mapped, length_front, front_more, front_all, set_changed}
use Rattle.ti_heap.proofs.Dropping.{drop_contents, drop_sound}
use Rattle.ti_heap.proofs.heap.Heap.drop_region.Goals as goal

pub loop-i-preserved : goal.loop-i-preserved
loop-i-preserved c =
    let f : List Allocation → List Allocation = map (drop_if_in c.args.region) in
    let xs = c.loop-i.self-inside.shares.items in
    let t = c.index_mut-share.result.now in
    let e = ap (λ (x : List (List Allocation)). length x) c.loop-i.invariant ∙ length_front f c.loop-i.i c.self.inside.shares.items in
    let inside : c.loop-i.i < length xs = omega (arith, e, c.self.inside.shares.ok.0) in
    ap (λ (y : List Allocation). set xs c.loop-i.i y) c.drop_region.ensures
    ∙ set_changed xs c.loop-i.i f t (slice_get_read xs (length xs) c.loop-i.i t refl inside c.index_mut-share.ensures.value)
    ∙ ap (changed_at c.loop-i.i f) c.loop-i.invariant ∙ front_more f c.loop-i.i c.self.inside.shares.items
    ∙ ap (λ (k : ℕ). front_mapped f k c.self.inside.shares.items) (sym (add-one c.loop-i.i))

pub invariant_of-self : goal.invariant_of-self
invariant_of-self c =
    let f : List Allocation → List Allocation = map (drop_if_in c.args.region) in
    let items = c.self.inside.shares.items in
    let e : c.loop-i.self-inside.shares.items ≡ map f items = c.loop-i.invariant ∙ front_all f c.loop-i.i items (omega (arith, c.self.inside.shares.ok.0)) in
    subst (λ (h : List (List Allocation)). HaveBlocks (thing_at h)) (sym e) (drop_sound c.args.region items c.self.invariant)

pub returns : goal.returns
returns c =
    let f : List Allocation → List Allocation = map (drop_if_in c.args.region) in
    let items = c.self.inside.shares.items in
    let e : c.loop-i.self-inside.shares.items ≡ map f items = c.loop-i.invariant ∙ front_all f c.loop-i.i items (omega (arith, c.self.inside.shares.ok.0)) in
    ap contents e ∙ drop_contents c.args.region items ∙ ap (λ (h : List (List Allocation)). without_region c.args.region (contents h)) c.self.view_is
