use Rattle.std.proofs.Common.{Some, lit<}
use Rattle.ti_heap.specs.Contents.{whole_map}
use Rattle.ti_heap.specs.Things.{contents}
use Rattle.ti_tests.proofs.HeapCalls.{none_made, one_more, has_serials}
use Rattle.ti_tests.proofs.heaps.drop_a_grid.Goals as goal

pub new_grid-requires-clause-serial : goal.new_grid-requires-clause-serial
new_grid-requires-clause-serial c = has_serials (contents c.in_ok-heap.heap) 0 0 (none_made (contents c.in_ok-heap.heap) 2 c.in_ok-heap.ensures 0) (lit< tt)

pub new_obj-requires-clause-serial : goal.new_obj-requires-clause-serial
new_obj-requires-clause-serial c =
    let k = c.in_ok-new_grid in
    has_serials (contents c.new_grid.new.self) 1 1
    (one_more (contents c.in_ok-heap.heap) (contents c.new_grid.new.self) k.field-0 _ (Some (whole_map k.field-0 c.args.dom.now)) k.ensures.made 1 0
    (none_made (contents c.in_ok-heap.heap) 2 c.in_ok-heap.ensures 1)) (lit< tt)
