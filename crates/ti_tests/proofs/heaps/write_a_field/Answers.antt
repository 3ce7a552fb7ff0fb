use Rattle.std.proofs.Common.{ap, lit<}
use Rattle.std.specs.Option.{is_some}
use Rattle.ti_heap.specs.Contents.{cell_at}
use Rattle.ti_heap.specs.Things.{contents}
use Rattle.ti_tests.proofs.HeapCalls.{none_made, has_serials, still_there}
use Rattle.ti_tests.proofs.heaps.write_a_field.Goals as goal

pub new_obj-requires-clause-serial : goal.new_obj-requires-clause-serial
new_obj-requires-clause-serial c = has_serials (contents c.in_ok-heap.heap) 1 0 (none_made (contents c.in_ok-heap.heap) 2 c.in_ok-heap.ensures 1) (lit< tt)

pub get_field-kept-requires : goal.get_field-kept-requires
get_field-kept-requires c =
    still_there (contents c.new_obj.new.self) (contents c.put_field.new.self) (cell_at c.in_ok-obj.obj 1) _ c.put_field.ensures (cell_at c.in_ok-obj.obj 0)
    (ap is_some c.get_field-number.ensures)

pub get_field-written-requires : goal.get_field-written-requires
get_field-written-requires c =
    still_there (contents c.new_obj.new.self) (contents c.put_field.new.self) (cell_at c.in_ok-obj.obj 1) _ c.put_field.ensures (cell_at c.in_ok-obj.obj 1)
    (ap is_some c.get_field-null.ensures)
