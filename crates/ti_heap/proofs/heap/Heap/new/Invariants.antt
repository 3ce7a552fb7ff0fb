use Rattle.std.proofs.Common.{◌≡◌, [], replicate}
use Rattle.ti_heap.proofs.heap.Heap.new.Given as goal

abbrev pub invariant-loop-process : goal.invariant-loop-process
invariant-loop-process l = l.shares.items ≡ replicate l._process []
