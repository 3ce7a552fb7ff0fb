use Rattle.std.proofs.Common.{◌≡◌, drop, find}
use Rattle.std.specs.BTreeSet.{contains}
use Rattle.ti_blame.specs.Keys.{key_cmp}
use Rattle.ti_blame.specs.Mirrors.Search.{can_start}
use Rattle.ti_blame.proofs.search.first_start.Given as goal

abbrev pub invariant-loop-e : goal.invariant-loop-e
invariant-loop-e l = find (can_start (contains key_cmp l.named) l.items l.reason) l.implications ≡ find (can_start (contains key_cmp l.named) l.items l.reason) (drop l.e-index l.implications)
