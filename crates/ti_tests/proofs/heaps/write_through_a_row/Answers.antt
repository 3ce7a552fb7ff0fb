use Rattle.std.proofs.Common.{[], Some, sym, ap, ◌∙◌, lit<}
use Rattle.std.specs.Option.{option_map}
use Rattle.std.proofs.lemmas.Bool.{eq-eqb}
use Rattle.ti_base.specs.declared.action.ViewHow.TheVariants.{Translate}
use Rattle.ti_heap.specs.Contents.{whole_map, seen_map}
use Rattle.ti_heap.specs.Things.{contents}
use Rattle.ti_tests.proofs.HeapCalls.{none_made, one_more, has_serials, grid_dim, grid_suits, as_many_written, translated_dim}
use Rattle.ti_tests.proofs.heaps.write_through_a_row.Goals as goal

pub new_grid-requires-clause-serial : goal.new_grid-requires-clause-serial
new_grid-requires-clause-serial c = has_serials (contents c.in_ok-heap.heap) 0 0 (none_made (contents c.in_ok-heap.heap) 2 c.in_ok-heap.ensures 0) (lit< tt)

pub make_view-requires-clause-serial : goal.make_view-requires-clause-serial
make_view-requires-clause-serial c =
    let k = c.in_ok-grid in
    has_serials (contents c.new_grid.new.self) 1 1
    (one_more (contents c.in_ok-heap.heap) (contents c.new_grid.new.self) k.grid _ (Some (whole_map k.grid c.args.dom.now)) k.ensures.made 1 0
    (none_made (contents c.in_ok-heap.heap) 2 c.in_ok-heap.ensures 1)) (lit< tt)

pub get_elem-read-requires : goal.get_elem-read-requires
get_elem-read-requires c =
    let g = c.in_ok-grid.grid in
    grid_dim ((contents c.put_elem-written.new.self).grid g) (whole_map g c.args.dom.now) c.cell.result.dim
    (c.put_elem-written.ensures.kept g ∙ c.make_view.ensures.kept ∙ c.in_ok-grid.ensures.there) (c.cell.ensures.dim ∙ sym c.requires.two)

pub make_view-requires-2-clause-serial : goal.make_view-requires-2-clause-serial
make_view-requires-2-clause-serial c =
    let k = c.in_ok-grid in
    let made = one_more (contents c.in_ok-heap.heap) (contents c.new_grid.new.self) k.grid _ (Some (whole_map k.grid c.args.dom.now)) k.ensures.made 0 0
    (none_made (contents c.in_ok-heap.heap) 2 c.in_ok-heap.ensures 0) in
    let viewed = one_more (contents c.new_grid.new.self) (contents c.make_view.new.self) c.in_ok-row.row [] _ c.in_ok-row.ensures.made 0 1 made in
    has_serials (contents c.put_elem-written.new.self) 0 2
    (as_many_written (contents c.make_view.new.self) (contents c.put_elem-written.new.self) _ _ _ c.put_elem-written.ensures.value 0 2 viewed) (lit< tt)

pub make_view-requires-2-clause-grid : goal.make_view-requires-2-clause-grid
make_view-requires-2-clause-grid c =
    let g = c.in_ok-grid.grid in
    grid_suits ((contents c.put_elem-written.new.self).grid g) (whole_map g c.args.dom.now) (Translate c.cell-2.result)
    (c.put_elem-written.ensures.kept g ∙ c.make_view.ensures.kept ∙ c.in_ok-grid.ensures.there) (eq-eqb c.cell-2.result.dim c.args.dom.now.dim (c.cell-2.ensures.dim ∙ sym c.requires.two))

pub get_elem-same-requires : goal.get_elem-same-requires
get_elem-same-requires c =
    let g = c.in_ok-grid.grid in
    let by = c.cell-2.result in
    let see = seen_map (Translate by) in
    grid_dim ((contents c.make_view-2.new.self).grid c.in_ok-moved.moved) (see (whole_map g c.args.dom.now)) c.cell-3.result.dim
    (c.in_ok-moved.ensures.there ∙ ap (option_map see) (c.put_elem-written.ensures.kept g ∙ c.make_view.ensures.kept ∙ c.in_ok-grid.ensures.there))
    (c.cell-3.ensures.dim ∙ sym (translated_dim c.args.dom.now by ∙ c.requires.two))

pub get_elem-outside-requires : goal.get_elem-outside-requires
get_elem-outside-requires c =
    let g = c.in_ok-grid.grid in
    let by = c.cell-2.result in
    let see = seen_map (Translate by) in
    grid_dim ((contents c.make_view-2.new.self).grid c.in_ok-moved.moved) (see (whole_map g c.args.dom.now)) c.cell-4.result.dim
    (c.in_ok-moved.ensures.there ∙ ap (option_map see) (c.put_elem-written.ensures.kept g ∙ c.make_view.ensures.kept ∙ c.in_ok-grid.ensures.there))
    (c.cell-4.ensures.dim ∙ sym (translated_dim c.args.dom.now by ∙ c.requires.two))
