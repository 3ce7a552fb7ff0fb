use Rattle.std.proofs.Common.{◌≡◌, ◌++◌, length}
use Rattle.ti_explain.specs.DepthReasons.{counted_behind}
use Rattle.ti_explain.proofs.depth.counted_places.Given as goal

abbrev pub invariant-loop-rest : goal.invariant-loop-rest
invariant-loop-rest l = counted_behind 0 l.list ≡ l.found.items ++ counted_behind l.arity l.rest

abbrev pub decreases-loop-rest : goal.decreases-loop-rest
decreases-loop-rest l = length l.rest
