use Rattle.std.proofs.Common.{◌≡◌, ap, arith}
use Rattle.ti_parse_expr.specs.Mirrors.Exprs.{expr}
use Rattle.ti_parse_expr.proofs.Turns.{deeper}
use Rattle.ti_parse_expr.proofs.exprs.+expr.Goals as goal

pub returns-then-fuel-eq0 : goal.returns-then-fuel-eq0
unfolding expr
returns-then-fuel-eq0 t c = let none : c.args.fuel ≡ 0 = omega arith in ap (λ n. expr n c.args.least c.args.tokens.now) none

pub returns : goal.returns
unfolding expr
returns t c = rw (deeper (λ n. expr n c.args.least c.args.tokens.now) c.args.fuel (omega arith)) c.level.ensures
