use Rattle.std.proofs.Common.{rules, arith}
use Rattle.std.proofs.lemmas.Grind.{common_steps}
use Rattle.ti_parse.specs.Mirrors.ParserParams.{language_params}
use Rattle.ti_parse.specs.Mirrors.Seen.{param_list_of}
use Rattle.ti_parse.specs.Mirrors.Classes.{more_params}
use Rattle.ti_parse_expr.proofs.Lemmas.{one_more}
use Rattle.ti_parse.proofs.parser.TextParser.more_params.Goals as goal

pub loop-turn-preserved : goal.loop-turn-preserved
unfolding more_params
loop-turn-preserved c =
    let e = one_more (λ n. more_params language_params c.args.self.fuel n (param_list_of c.loop-turn.found) c.loop-turn.tokens) _ c.loop-turn._turn c.loop-turn-test.true c.loop-turn.invariant in
    first_of (search rules, grind (arith, common_steps))

pub returns-then-not-next_is : goal.returns-then-not-next_is
unfolding more_params
returns-then-not-next_is c =
    let e = one_more (λ n. more_params language_params c.args.self.fuel n (param_list_of c.loop-turn.found) c.loop-turn.tokens) _ c.loop-turn._turn c.loop-turn-test.true c.loop-turn.invariant in
    first_of (search rules, grind (arith, common_steps))

pub returns-in_err-ty : goal.returns-in_err-ty
unfolding more_params
returns-in_err-ty c =
    let e = one_more (λ n. more_params language_params c.args.self.fuel n (param_list_of c.loop-turn.found) c.loop-turn.tokens) _ c.loop-turn._turn c.loop-turn-test.true c.loop-turn.invariant in
    first_of (search rules, grind (arith, common_steps))

pub returns-in_err-name : goal.returns-in_err-name
unfolding more_params
returns-in_err-name c =
    let e = one_more (λ n. more_params language_params c.args.self.fuel n (param_list_of c.loop-turn.found) c.loop-turn.tokens) _ c.loop-turn._turn c.loop-turn-test.true c.loop-turn.invariant in
    first_of (search rules, grind (arith, common_steps))
