use Rattle.std.proofs.Common.{◌≡◌, length}
use Rattle.ti_runtime.specs.Mirrors.Joined.{NoneFilled}
use Rattle.ti_runtime.proofs.threads.joined.free_places.Given as goal

abbrev pub invariant-loop-p : goal.invariant-loop-p
invariant-loop-p l = record {
  count : length l.places.items ≡ l._p;
  free : NoneFilled l.places.items;
}
