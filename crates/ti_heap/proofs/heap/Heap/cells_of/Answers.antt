use Rattle.std.proofs.Common.{List, sym, subst}
use Rattle.ti_heap.specs.declared.allocation.Allocation.{Allocation}
use Rattle.ti_heap.specs.Contents.{ListsCells}
use Rattle.ti_heap.specs.Things.{all_values_in, contents}
use Rattle.ti_heap.proofs.Listing.{cells_listed}
use Rattle.ti_heap.proofs.heap.Heap.cells_of.Goals as goal

pub returns-clause-cells : goal.returns-clause-cells
returns-clause-cells c =
    subst (λ (h : List (List Allocation)). ListsCells (contents c.args.self.now) c.args.region (all_values_in c.args.region h)) (sym c.shares.ensures.shares)
    (cells_listed c.args.self.now c.args.region)
