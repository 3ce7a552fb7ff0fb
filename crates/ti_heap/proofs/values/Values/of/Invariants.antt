use Rattle.std.proofs.Common.{◌≡◌, map, take}
use Rattle.ti_base.specs.Cells.{zero_value}
use Rattle.ti_heap.proofs.values.Values.of.Given as goal

abbrev pub invariant-loop-zero : goal.invariant-loop-zero
invariant-loop-zero l = l.items.items ≡ map zero_value (take l.zero-index l.zeros)
