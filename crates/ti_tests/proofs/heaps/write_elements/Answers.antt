use Rattle.std.proofs.Common.{sym, ◌∙◌, lit<}
use Rattle.ti_heap.specs.Contents.{whole_map}
use Rattle.ti_heap.specs.Things.{contents}
use Rattle.ti_tests.proofs.HeapCalls.{none_made, has_serials, grid_dim}
use Rattle.ti_tests.proofs.heaps.write_elements.Goals as goal

pub new_grid-requires-clause-serial : goal.new_grid-requires-clause-serial
new_grid-requires-clause-serial c = has_serials (contents c.in_ok-heap.heap) 0 0 (none_made (contents c.in_ok-heap.heap) 1 c.in_ok-heap.ensures 0) (lit< tt)

pub get_elem-six-requires : goal.get_elem-six-requires
get_elem-six-requires c =
    let g = c.in_ok-grid.grid in
    grid_dim ((contents c.put_elem-beside.new.self).grid g) (whole_map g c.args.dom.now) c.at-3.result.dim
    (c.put_elem-beside.ensures.kept g ∙ c.put_elem-written.ensures.kept g ∙ c.in_ok-grid.ensures.there) (c.at-3.ensures.dim ∙ sym c.requires.one)

pub get_elem-four-requires : goal.get_elem-four-requires
get_elem-four-requires c =
    let g = c.in_ok-grid.grid in
    grid_dim ((contents c.put_elem-beside.new.self).grid g) (whole_map g c.args.dom.now) c.at-4.result.dim
    (c.put_elem-beside.ensures.kept g ∙ c.put_elem-written.ensures.kept g ∙ c.in_ok-grid.ensures.there) (c.at-4.ensures.dim ∙ sym c.requires.one)

pub get_elem-beyond-requires : goal.get_elem-beyond-requires
get_elem-beyond-requires c =
    let g = c.in_ok-grid.grid in
    grid_dim ((contents c.put_elem-beside.new.self).grid g) (whole_map g c.args.dom.now) c.at-5.result.dim
    (c.put_elem-beside.ensures.kept g ∙ c.put_elem-written.ensures.kept g ∙ c.in_ok-grid.ensures.there) (c.at-5.ensures.dim ∙ sym c.requires.one)
