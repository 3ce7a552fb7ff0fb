use Rattle.std.proofs.Common.{◌≡◌, ◌↔◌, length, ap, true, false}
use Rattle.std.specs.Option.{option_map}
use Rattle.ti_base.specs.Rects.{IsIn}
use Rattle.ti_heap.specs.Contents.{GridMap}
use Rattle.ti_heap.specs.Things.{thing_at, map_of, grid_in}
use Rattle.ti_heap.proofs.Grids.{backed_held}
use Rattle.ti_heap.proofs.Costs.{and_some}
use Rattle.ti_heap.proofs.heap.Heap.get_elem.Goals as goal

pub value-requires : goal.value-requires
value-requires c =
    let b = c.view-view.ensures.backed in
    backed_held (thing_at c.args.self.now) c.view-view.result.now c.block.result c.in-Some.i c.block.ensures b (c.in-Some.ensures.below (length b.elements) b.below)

pub returns-in-Some-clause-bounds : goal.returns-in-Some-clause-bounds
returns-in-Some-clause-bounds c =
    and_some (grid_in (thing_at c.args.self.now) c.args.grid) (λ (g : GridMap). (false ≡ true) ↔ (IsIn g.domain c.args.point.now → ⊥))
    (map_of c.view-view.result.now) (ap (option_map map_of) c.view-view.ensures.layout)
    (λ e. cc, λ out. let t = c.in-Some.ensures.outside.1 out in cc)
