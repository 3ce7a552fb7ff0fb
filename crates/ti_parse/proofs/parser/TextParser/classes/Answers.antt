use Rattle.std.proofs.Common.{rules, arith}
use Rattle.std.proofs.lemmas.Grind.{common_steps}
use Rattle.ti_parse.specs.Mirrors.ParserParams.{language_params}
use Rattle.ti_parse.specs.Mirrors.Seen.{classes_of}
use Rattle.ti_parse.specs.Mirrors.Classes.{classes}
use Rattle.ti_parse_expr.proofs.Lemmas.{one_more}
use Rattle.ti_parse.proofs.parser.TextParser.classes.Goals as goal

pub loop-turn-preserved : goal.loop-turn-preserved
unfolding classes
loop-turn-preserved c =
    let e = one_more (λ n. classes language_params c.args.self.fuel n (classes_of c.loop-turn.found) c.loop-turn.tokens) _ c.loop-turn._turn c.loop-turn-test.true c.loop-turn.invariant in
    first_of (search rules, grind (arith, common_steps))

pub returns-then-next_is : goal.returns-then-next_is
unfolding classes
returns-then-next_is c =
    let e = one_more (λ n. classes language_params c.args.self.fuel n (classes_of c.loop-turn.found) c.loop-turn.tokens) _ c.loop-turn._turn c.loop-turn-test.true c.loop-turn.invariant in
    first_of (search rules, grind (arith, common_steps))

pub returns-in_err-class : goal.returns-in_err-class
unfolding classes
returns-in_err-class c =
    let e = one_more (λ n. classes language_params c.args.self.fuel n (classes_of c.loop-turn.found) c.loop-turn.tokens) _ c.loop-turn._turn c.loop-turn-test.true c.loop-turn.invariant in
    first_of (search rules, grind (arith, common_steps))
