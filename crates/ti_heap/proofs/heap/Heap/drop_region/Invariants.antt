use Rattle.std.proofs.Common.{◌≡◌, map}
use Rattle.ti_heap.specs.Things.{drop_if_in}
use Rattle.ti_heap.proofs.Lists.{front_mapped}
use Rattle.ti_heap.proofs.heap.Heap.drop_region.Given as goal

abbrev pub invariant-loop-i : goal.invariant-loop-i
invariant-loop-i l = l.self-inside.shares.items ≡ front_mapped (map (drop_if_in l.region)) l.i l.initial.self-inside.shares.items
