use Rattle.std.proofs.Common.{false, [], ◌∷◌, None, lit<}
use Rattle.ti_base.specs.declared.value.Value.TheVariants.{Bool}
use Rattle.ti_heap.specs.Things.{contents}
use Rattle.ti_tests.proofs.HeapCalls.{none_made, one_more_at_most, as_many, has_serials}
use Rattle.ti_tests.proofs.heaps.fill_up.Goals as goal

pub new_grid-full-requires-clause-serial : goal.new_grid-full-requires-clause-serial
new_grid-full-requires-clause-serial c =
    let k0 = none_made (contents c.in_ok-heap.heap) 2 c.in_ok-heap.ensures 0 in
    has_serials (contents c.in_ok-heap.heap) 0 0 k0 (lit< tt)

pub new_grid-made-requires-clause-serial : goal.new_grid-made-requires-clause-serial
new_grid-made-requires-clause-serial c =
    let k0 = none_made (contents c.in_ok-heap.heap) 2 c.in_ok-heap.ensures 0 in
    let k1 = one_more_at_most contents c.new_grid-full.result c.in_ok-heap.heap c.new_grid-full.new.self _ _ c.new_grid-full.ensures.made c.new_grid-full.ensures.err 0 0 k0 in
    has_serials (contents c.new_grid-full.new.self) 0 1 k1 (lit< tt)

pub new_obj-object-requires-clause-serial : goal.new_obj-object-requires-clause-serial
new_obj-object-requires-clause-serial c =
    let k0 = none_made (contents c.in_ok-heap.heap) 2 c.in_ok-heap.ensures 0 in
    let k1 = one_more_at_most contents c.new_grid-full.result c.in_ok-heap.heap c.new_grid-full.new.self _ _ c.new_grid-full.ensures.made c.new_grid-full.ensures.err 0 0 k0 in
    let k2 = one_more_at_most contents c.new_grid-made.result c.new_grid-full.new.self c.new_grid-made.new.self _ _ c.new_grid-made.ensures.made c.new_grid-made.ensures.err 0 1 k1 in
    has_serials (contents c.new_grid-made.new.self) 0 2 k2 (lit< tt)

pub new_obj-other-requires-clause-serial : goal.new_obj-other-requires-clause-serial
new_obj-other-requires-clause-serial c =
    let k0 = none_made (contents c.in_ok-heap.heap) 2 c.in_ok-heap.ensures 1 in
    let k1 = one_more_at_most contents c.new_grid-full.result c.in_ok-heap.heap c.new_grid-full.new.self _ _ c.new_grid-full.ensures.made c.new_grid-full.ensures.err 1 0 k0 in
    let k2 = one_more_at_most contents c.new_grid-made.result c.new_grid-full.new.self c.new_grid-made.new.self _ _ c.new_grid-made.ensures.made c.new_grid-made.ensures.err 1 1 k1 in
    let k3 = one_more_at_most contents c.new_obj-object.result c.new_grid-made.new.self c.new_obj-object.new.self [] (λ id. None) c.new_obj-object.ensures.made c.new_obj-object.ensures.err 1 2 k2 in
    has_serials (contents c.new_obj-object.new.self) 1 3 k3 (lit< tt)

pub new_obj-again-requires-clause-serial : goal.new_obj-again-requires-clause-serial
new_obj-again-requires-clause-serial c =
    let k0 = none_made (contents c.in_ok-heap.heap) 2 c.in_ok-heap.ensures 0 in
    let k1 = one_more_at_most contents c.new_grid-full.result c.in_ok-heap.heap c.new_grid-full.new.self _ _ c.new_grid-full.ensures.made c.new_grid-full.ensures.err 0 0 k0 in
    let k2 = one_more_at_most contents c.new_grid-made.result c.new_grid-full.new.self c.new_grid-made.new.self _ _ c.new_grid-made.ensures.made c.new_grid-made.ensures.err 0 1 k1 in
    let k3 = one_more_at_most contents c.new_obj-object.result c.new_grid-made.new.self c.new_obj-object.new.self [] (λ id. None) c.new_obj-object.ensures.made c.new_obj-object.ensures.err 0 2 k2 in
    let k4 = one_more_at_most contents c.new_obj-other.result c.new_obj-object.new.self c.new_obj-other.new.self (Bool false ∷ [])
    (λ id. None) c.new_obj-other.ensures.made c.new_obj-other.ensures.err 0 3 k3 in
    has_serials (contents c.drop_region.new.self) 0 4 (as_many (contents c.new_obj-other.new.self) (contents c.drop_region.new.self) 5 c.drop_region.ensures 0 4 k4) (lit< tt)
