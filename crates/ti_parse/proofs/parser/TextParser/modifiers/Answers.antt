use Rattle.std.proofs.Common.{rules, arith}
use Rattle.std.proofs.lemmas.Grind.{common_steps}
use Rattle.ti_parse.specs.Mirrors.ParserParams.{language_params}
use Rattle.ti_parse.specs.Mirrors.Seen.{modifiers_of, modifier_word_of}
use Rattle.ti_parse.specs.Mirrors.Classes.{modifiers}
use Rattle.ti_parse_expr.proofs.Lemmas.{one_more}
use Rattle.ti_parse.proofs.parser.TextParser.modifiers.Goals as goal

pub loop-turn-preserved : goal.loop-turn-preserved
unfolding modifiers
loop-turn-preserved c =
    let e = one_more (λ n. modifiers language_params c.args.self.fuel (modifier_word_of c.args.modified) n
    (modifiers_of c.loop-turn.found) c.loop-turn.tokens) _ c.loop-turn._turn c.loop-turn-test.true c.loop-turn.invariant in
    first_of (search rules, grind (arith, common_steps))

pub returns-in_default : goal.returns-in_default
unfolding modifiers
returns-in_default c =
    let e = one_more (λ n. modifiers language_params c.args.self.fuel (modifier_word_of c.args.modified) n
    (modifiers_of c.loop-turn.found) c.loop-turn.tokens) _ c.loop-turn._turn c.loop-turn-test.true c.loop-turn.invariant in
    first_of (search rules, grind (arith, common_steps))
