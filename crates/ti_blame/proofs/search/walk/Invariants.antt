use Rattle.std.proofs.Common.{◌<◌, length}
use Rattle.ti_blame.proofs.Walking.{Walked}
use Rattle.ti_blame.proofs.search.walk.Given as goal

abbrev pub invariant-walk : goal.invariant-walk
invariant-walk l = record {
  within : l.k < length l.links;
  walks : Walked l.links l.fn.start l.first l.k l.steps.items;
}

abbrev pub decreases-walk : goal.decreases-walk
decreases-walk l = l.k
