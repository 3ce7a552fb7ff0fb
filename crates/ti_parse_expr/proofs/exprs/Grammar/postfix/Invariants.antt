use Rattle.std.proofs.Common.{◌≡◌, ◌-◌}
use Rattle.ti_parse_expr.specs.Mirrors.Seen.{operand_of}
use Rattle.ti_parse_expr.specs.Mirrors.Exprs.{expr, postfix}
use Rattle.ti_parse_expr.proofs.exprs.Grammar.postfix.Given as goal

abbrev pub invariant-loop-turn : goal.invariant-loop-turn
invariant-loop-turn g l = postfix l.self.fuel (expr l.self.fuel) l.fuel (operand_of l.fn.first) l.fn.tokens
    ≡ postfix l.self.fuel (expr l.self.fuel) (l.fuel - l._turn) (operand_of l.left) l.tokens
