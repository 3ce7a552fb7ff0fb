use Rattle.std.proofs.Common.{◌≡◌, replicate}
use Rattle.ti_heap.proofs.values.Values.filled.Given as goal

abbrev pub invariant-loop-i : goal.invariant-loop-i
invariant-loop-i l = l.items.items ≡ replicate l._i l.value
