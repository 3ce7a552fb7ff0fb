use Rattle.std.proofs.Common.{◌≡◌, ◌-◌}
use Rattle.ti_syntax.specs.Trees.Views.{exp_of}
use Rattle.ti_parse_expr.specs.Mirrors.Exprs.{expr, climb}
use Rattle.ti_parse_expr.proofs.exprs.Grammar.climb.Given as goal

abbrev pub invariant-loop-turn : goal.invariant-loop-turn
invariant-loop-turn g l = climb l.self.fuel (expr l.self.fuel) l.least l.self.fuel (exp_of l.fn.first) l.fn.tokens
    ≡ climb l.self.fuel (expr l.self.fuel) l.least (l._turn-end - l._turn) (exp_of l.left) l.tokens
