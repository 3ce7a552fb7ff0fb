use Rattle.std.proofs.Common.{rules, arith}
use Rattle.std.proofs.lemmas.Grind.{common_steps}
use Rattle.ti_parse_expr.specs.Mirrors.Types.{grids}
use Rattle.ti_parse_expr.specs.Mirrors.Seen.{grids_of}
use Rattle.ti_parse_expr.proofs.Turns.{one_more}
use Rattle.ti_parse_expr.proofs.types.grids.Goals as goal

pub loop-turn-preserved : goal.loop-turn-preserved
unfolding grids
loop-turn-preserved c =
    let e = one_more (λ n. grids c.args.fuel n (grids_of c.loop-turn.found) c.loop-turn.tokens) _ c.loop-turn._turn c.loop-turn-test.true c.loop-turn.invariant in
    first_of (search rules, grind (arith, common_steps))

pub returns-in_err-grid : goal.returns-in_err-grid
unfolding grids
returns-in_err-grid c =
    let e = one_more (λ n. grids c.args.fuel n (grids_of c.loop-turn.found) c.loop-turn.tokens) _ c.loop-turn._turn c.loop-turn-test.true c.loop-turn.invariant in
    first_of (search rules, grind (arith, common_steps))
