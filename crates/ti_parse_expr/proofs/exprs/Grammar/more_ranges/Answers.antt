use Rattle.std.proofs.Common.{rules, arith}
use Rattle.std.proofs.lemmas.Grind.{common_steps}
use Rattle.ti_syntax.specs.Trees.Views.{ranges_of}
use Rattle.ti_parse_expr.specs.Mirrors.Exprs.{expr, more_ranges}
use Rattle.ti_parse_expr.proofs.Turns.{one_more}
use Rattle.ti_parse_expr.proofs.exprs.Grammar.more_ranges.Goals as goal

pub loop-turn-preserved : goal.loop-turn-preserved
unfolding more_ranges
loop-turn-preserved g c =
    let e = one_more (λ n. more_ranges c.args.self.now.fuel (expr c.args.self.now.fuel) n
    (ranges_of c.loop-turn.found) c.loop-turn.tokens) _ c.loop-turn._turn c.loop-turn-test.true c.loop-turn.invariant in
    first_of (search rules, grind (arith, common_steps))

pub returns-in_err-low : goal.returns-in_err-low
unfolding more_ranges
returns-in_err-low g c =
    let e = one_more (λ n. more_ranges c.args.self.now.fuel (expr c.args.self.now.fuel) n
    (ranges_of c.loop-turn.found) c.loop-turn.tokens) _ c.loop-turn._turn c.loop-turn-test.true c.loop-turn.invariant in
    first_of (search rules, grind (arith, common_steps))

pub returns-then-not-next_is : goal.returns-then-not-next_is
unfolding more_ranges
returns-then-not-next_is g c =
    let e = one_more (λ n. more_ranges c.args.self.now.fuel (expr c.args.self.now.fuel) n
    (ranges_of c.loop-turn.found) c.loop-turn.tokens) _ c.loop-turn._turn c.loop-turn-test.true c.loop-turn.invariant in
    first_of (search rules, grind (arith, common_steps))

pub returns-in_err-range_from : goal.returns-in_err-range_from
unfolding more_ranges
returns-in_err-range_from g c =
    let e = one_more (λ n. more_ranges c.args.self.now.fuel (expr c.args.self.now.fuel) n
    (ranges_of c.loop-turn.found) c.loop-turn.tokens) _ c.loop-turn._turn c.loop-turn-test.true c.loop-turn.invariant in
    first_of (search rules, grind (arith, common_steps))
