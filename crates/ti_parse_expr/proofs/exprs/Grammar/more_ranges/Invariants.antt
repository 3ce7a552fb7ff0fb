use Rattle.std.proofs.Common.{◌≡◌, ◌-◌}
use Rattle.ti_syntax.specs.Trees.Views.{ranges_of}
use Rattle.ti_parse_expr.specs.Mirrors.Exprs.{expr, more_ranges}
use Rattle.ti_parse_expr.proofs.exprs.Grammar.more_ranges.Given as goal

abbrev pub invariant-loop-turn : goal.invariant-loop-turn
invariant-loop-turn g l = more_ranges l.self.fuel (expr l.self.fuel) l.room (ranges_of l.fn.found) l.fn.tokens
    ≡ more_ranges l.self.fuel (expr l.self.fuel) (l.room - l._turn) (ranges_of l.found) l.tokens
