use Rattle.std.proofs.Common.{◌≡◌, ◌+◌, List, length, sum_by}
use Rattle.ti_base.specs.declared.value.Value.{Value}
use Rattle.ti_heap.specs.declared.allocation.Allocation.{Allocation}
use Rattle.ti_heap.specs.declared.cells.Cells.TheInside.{Inside}
use Rattle.ti_heap.specs.Things.{values_left}
use Rattle.ti_heap.proofs.cells.CellsIterator.next.Given as goal

-- the values that are still to come
abbrev pub coming : Inside → List Value
coming c = values_left c.region c.values.now c.places.now c.things.now c.rest.now c.shares.now

abbrev pub invariant-loop-place : goal.invariant-loop-place
invariant-loop-place l =
    (l.self-inside.region ≡ l.initial.self-inside.region)
    × (coming l.self-inside ≡ coming l.initial.self-inside)

abbrev pub decreases-loop-place : goal.decreases-loop-place
decreases-loop-place l =
    let shares = sum_by (λ (share : List Allocation). 1 + length share) l.self-inside.shares.now in
    length l.self-inside.places.now + (length l.self-inside.rest.now + shares)
