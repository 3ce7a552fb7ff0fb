use Rattle.std.proofs.Common.{◌≡◌, ◌+◌, length}
use Rattle.ti_syntax.specs.Spelling.Weights.{weigh, weigh_behind}
use Rattle.ti_parse_expr.proofs.weight.weigh.Given as goal

abbrev pub invariant-loop-rest : goal.invariant-loop-rest
invariant-loop-rest l = weigh l.list ≡ l.weight + weigh_behind l.arity l.rest

abbrev pub decreases-loop-rest : goal.decreases-loop-rest
decreases-loop-rest l = length l.rest
