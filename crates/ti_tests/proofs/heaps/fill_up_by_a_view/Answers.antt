use Rattle.std.proofs.Common.{[], Some, refl, lit<}
use Rattle.std.specs.Option.{option_map}
use Rattle.std.proofs.lemmas.Bool.{eq-eqb}
use Rattle.ti_base.specs.declared.action.ViewHow.TheVariants.{Restrict}
use Rattle.ti_heap.specs.Contents.{whole_map, seen_map}
use Rattle.ti_heap.specs.Things.{contents}
use Rattle.ti_tests.proofs.HeapCalls.{none_made, one_more, one_more_at_most, has_serials, grid_suits}
use Rattle.ti_tests.proofs.heaps.fill_up_by_a_view.Goals as goal

pub new_grid-requires-clause-serial : goal.new_grid-requires-clause-serial
new_grid-requires-clause-serial c = has_serials (contents c.in_ok-heap.heap) 0 0 (none_made (contents c.in_ok-heap.heap) 1 c.in_ok-heap.ensures 0) (lit< tt)

pub make_view-view-requires-clause-serial : goal.make_view-view-requires-clause-serial
make_view-view-requires-clause-serial c =
    let k = c.in_ok-grid in
    has_serials (contents c.new_grid.new.self) 0 1
    (one_more (contents c.in_ok-heap.heap) (contents c.new_grid.new.self) k.grid _ (Some (whole_map k.grid c.args.dom.now)) k.ensures.made 0 0
    (none_made (contents c.in_ok-heap.heap) 1 c.in_ok-heap.ensures 0)) (lit< tt)

pub make_view-view-requires-clause-grid : goal.make_view-view-requires-clause-grid
make_view-view-requires-clause-grid c =
    let dom = c.args.dom.now in
    grid_suits ((contents c.new_grid.new.self).grid c.in_ok-grid.grid) (whole_map c.in_ok-grid.grid dom) (Restrict dom) c.in_ok-grid.ensures.there (eq-eqb dom.dim dom.dim refl)

pub new_obj-object-requires-clause-serial : goal.new_obj-object-requires-clause-serial
new_obj-object-requires-clause-serial c =
    let k = c.in_ok-grid in
    let view = c.make_view-view in
    let one = one_more (contents c.in_ok-heap.heap) (contents c.new_grid.new.self) k.grid _ (Some (whole_map k.grid c.args.dom.now)) k.ensures.made 0 0
    (none_made (contents c.in_ok-heap.heap) 1 c.in_ok-heap.ensures 0) in
    has_serials (contents view.new.self) 0 2 (one_more_at_most contents view.result c.new_grid.new.self view.new.self []
    (λ id. option_map (seen_map (Restrict c.args.dom.now)) ((contents c.new_grid.new.self).grid k.grid)) view.ensures.made
    view.ensures.err 0 1 one) (lit< tt)
