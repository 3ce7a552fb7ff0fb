use Rattle.std.proofs.Common.{rules, arith}
use Rattle.std.proofs.lemmas.Grind.{common_steps}
use Rattle.ti_syntax.specs.Trees.Views.{ranges_of}
use Rattle.ti_parse.specs.Mirrors.ParserParams.{language_params}
use Rattle.ti_parse.specs.Mirrors.Parts.{more_ranges}
use Rattle.ti_parse_expr.proofs.Lemmas.{one_more}
use Rattle.ti_parse.proofs.parser.TextParser.more_ranges.Goals as goal

pub loop-turn-preserved : goal.loop-turn-preserved
unfolding more_ranges
loop-turn-preserved c =
    let e = one_more (λ n. more_ranges language_params c.args.self.fuel n (ranges_of c.loop-turn.found) c.loop-turn.tokens) _ c.loop-turn._turn c.loop-turn-test.true c.loop-turn.invariant in
    first_of (search rules, grind (arith, common_steps))

pub returns-in_err-low : goal.returns-in_err-low
unfolding more_ranges
returns-in_err-low c =
    let e = one_more (λ n. more_ranges language_params c.args.self.fuel n (ranges_of c.loop-turn.found) c.loop-turn.tokens) _ c.loop-turn._turn c.loop-turn-test.true c.loop-turn.invariant in
    first_of (search rules, grind (arith, common_steps))

pub returns-then-not-next_is : goal.returns-then-not-next_is
unfolding more_ranges
returns-then-not-next_is c =
    let e = one_more (λ n. more_ranges language_params c.args.self.fuel n (ranges_of c.loop-turn.found) c.loop-turn.tokens) _ c.loop-turn._turn c.loop-turn-test.true c.loop-turn.invariant in
    first_of (search rules, grind (arith, common_steps))

pub returns-in_err-range_from : goal.returns-in_err-range_from
unfolding more_ranges
returns-in_err-range_from c =
    let e = one_more (λ n. more_ranges language_params c.args.self.fuel n (ranges_of c.loop-turn.found) c.loop-turn.tokens) _ c.loop-turn._turn c.loop-turn-test.true c.loop-turn.invariant in
    first_of (search rules, grind (arith, common_steps))
