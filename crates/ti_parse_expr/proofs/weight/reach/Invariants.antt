use Rattle.std.proofs.Common.{◌≡◌, ◌+◌, ◌-◌, ◌≤◌, length}
use Rattle.ti_parse_expr.specs.Mirrors.Reach.{reach}
use Rattle.ti_parse_expr.proofs.weight.reach.Given as goal

abbrev pub invariant-loop-rest : goal.invariant-loop-rest
invariant-loop-rest l = (length l.rest ≤ length l.list) × (reach 0 l.limit l.list ≡ (length l.list - length l.rest) + reach l.arity l.left l.rest)

abbrev pub decreases-loop-rest : goal.decreases-loop-rest
decreases-loop-rest l = length l.rest
