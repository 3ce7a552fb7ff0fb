use Rattle.std.proofs.Common.{◌≡◌}
use Rattle.ti_heap.specs.Things.{all_values_in}
use Rattle.ti_store.specs.Mirrors.Refs.{after_clearing, CanForget}
use Rattle.ti_store.proofs.regions.forget.Given as goal

abbrev pub invariant-loop-value : goal.invariant-loop-value
invariant-loop-value l = CanForget l.region l.value-iterator l.regions × (after_clearing l.region l.value-iterator l.regions ≡ after_clearing l.region (all_values_in l.region l.heap) l.initial.regions)
