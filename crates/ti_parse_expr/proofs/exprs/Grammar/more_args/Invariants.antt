use Rattle.std.proofs.Common.{◌≡◌, ◌-◌, []}
use Rattle.ti_syntax.specs.Trees.Views.{exps_of}
use Rattle.ti_parse_expr.specs.Mirrors.Exprs.{expr, more_args}
use Rattle.ti_parse_expr.proofs.exprs.Grammar.more_args.Given as goal

abbrev pub invariant-loop-turn : goal.invariant-loop-turn
invariant-loop-turn g l = more_args l.self.fuel (expr l.self.fuel) l.self.fuel [] l.fn.tokens ≡ more_args l.self.fuel (expr l.self.fuel) (l._turn-end - l._turn) (exps_of l.found) l.tokens
