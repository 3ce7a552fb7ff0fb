use Rattle.std.proofs.Common.{◌≡◌, ◌-◌}
use Rattle.ti_syntax.specs.Trees.Views.{exps_of}
use Rattle.ti_parse_expr.specs.Mirrors.Exprs.{expr, more_parts}
use Rattle.ti_parse_expr.proofs.exprs.Grammar.more_parts.Given as goal

abbrev pub invariant-loop-turn : goal.invariant-loop-turn
invariant-loop-turn g l = more_parts l.self.fuel (expr l.self.fuel) l.room (exps_of l.fn.found) l.fn.tokens
    ≡ more_parts l.self.fuel (expr l.self.fuel) (l.room - l._turn) (exps_of l.found) l.tokens
