use Rattle.std.proofs.Common.{rules, arith}
use Rattle.std.proofs.lemmas.Grind.{common_steps}
use Rattle.ti_parse_expr.specs.Mirrors.Types.{qualifiers}
use Rattle.ti_parse_expr.specs.Mirrors.Seen.{qualifiers_of}
use Rattle.ti_parse_expr.proofs.Turns.{one_more}
use Rattle.ti_parse_expr.proofs.types.qualifiers.Goals as goal

pub loop-turn-preserved : goal.loop-turn-preserved
unfolding qualifiers
loop-turn-preserved c =
    let e = one_more (λ n. qualifiers n (qualifiers_of c.loop-turn.found) c.loop-turn.tokens) _ c.loop-turn._turn c.loop-turn-test.true c.loop-turn.invariant in
    first_of (search rules, grind (arith, common_steps))

pub returns-in_default : goal.returns-in_default
unfolding qualifiers
returns-in_default c =
    let e = one_more (λ n. qualifiers n (qualifiers_of c.loop-turn.found) c.loop-turn.tokens) _ c.loop-turn._turn c.loop-turn-test.true c.loop-turn.invariant in
    first_of (search rules, grind (arith, common_steps))
