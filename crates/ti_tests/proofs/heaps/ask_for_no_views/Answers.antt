use Rattle.std.proofs.Common.{[], Some, pos, lit<}
use Rattle.std.specs.Option.{option_map}
use Rattle.ti_base.specs.declared.action.ViewHow.TheVariants.{Slice}
use Rattle.ti_heap.specs.Contents.{whole_map, seen_map}
use Rattle.ti_heap.specs.Things.{contents}
use Rattle.ti_tests.proofs.HeapCalls.{none_made, one_more, one_more_at_most, has_serials}
use Rattle.ti_tests.proofs.heaps.ask_for_no_views.Goals as goal

pub new_grid-requires-clause-serial : goal.new_grid-requires-clause-serial
new_grid-requires-clause-serial c = has_serials (contents c.in_ok-heap.heap) 0 0 (none_made (contents c.in_ok-heap.heap) 1 c.in_ok-heap.ensures 0) (lit< tt)

pub make_view-row-requires-clause-serial : goal.make_view-row-requires-clause-serial
make_view-row-requires-clause-serial c =
    let k = c.in_ok-grid in
    has_serials (contents c.new_grid.new.self) 0 1
    (one_more (contents c.in_ok-heap.heap) (contents c.new_grid.new.self) k.grid _ (Some (whole_map k.grid c.args.dom.now)) k.ensures.made 0 0
    (none_made (contents c.in_ok-heap.heap) 1 c.in_ok-heap.ensures 0)) (lit< tt)

pub make_view-third-requires-clause-serial : goal.make_view-third-requires-clause-serial
make_view-third-requires-clause-serial c =
    let k = c.in_ok-grid in
    let row = c.make_view-row in
    let one = one_more (contents c.in_ok-heap.heap) (contents c.new_grid.new.self) k.grid _ (Some (whole_map k.grid c.args.dom.now)) k.ensures.made 0 0
    (none_made (contents c.in_ok-heap.heap) 1 c.in_ok-heap.ensures 0) in
    has_serials (contents row.new.self) 0 2 (one_more_at_most contents row.result c.new_grid.new.self row.new.self []
    (λ id. option_map (seen_map (Slice (pos 1) (pos 3))) ((contents c.new_grid.new.self).grid k.grid)) row.ensures.made
    row.ensures.err 0 1 one) (lit< tt)

pub make_view-far-requires-clause-serial : goal.make_view-far-requires-clause-serial
make_view-far-requires-clause-serial c =
    let k = c.in_ok-grid in
    let row = c.make_view-row in
    let third = c.make_view-third in
    let one = one_more (contents c.in_ok-heap.heap) (contents c.new_grid.new.self) k.grid _ (Some (whole_map k.grid c.args.dom.now)) k.ensures.made 0 0
    (none_made (contents c.in_ok-heap.heap) 1 c.in_ok-heap.ensures 0) in
    let two = one_more_at_most contents row.result c.new_grid.new.self row.new.self []
    (λ id. option_map (seen_map (Slice (pos 1) (pos 3))) ((contents c.new_grid.new.self).grid k.grid)) row.ensures.made row.ensures.err
    0 1 one in
    has_serials (contents third.new.self) 0 3 (one_more_at_most contents third.result row.new.self third.new.self []
    (λ id. option_map (seen_map (Slice (pos 3) (pos 0))) ((contents row.new.self).grid k.grid)) third.ensures.made third.ensures.err 0
    2 two) (lit< tt)
