use Rattle.std.proofs.Common.{◌≡◌, ◌-◌, []}
use Rattle.ti_parse_expr.specs.Mirrors.Types.{qualifiers}
use Rattle.ti_parse_expr.specs.Mirrors.Seen.{qualifiers_of}
use Rattle.ti_parse_expr.proofs.types.qualifiers.Given as goal

abbrev pub invariant-loop-turn : goal.invariant-loop-turn
invariant-loop-turn l = qualifiers l.fuel [] l.fn.tokens ≡ qualifiers (l.fuel - l._turn) (qualifiers_of l.found) l.tokens
