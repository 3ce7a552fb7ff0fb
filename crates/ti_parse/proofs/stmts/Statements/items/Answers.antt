use Rattle.std.proofs.Common.{rules, arith}
use Rattle.std.proofs.lemmas.Grind.{common_steps}
use Rattle.ti_syntax.specs.Trees.Views.{stms_of}
use Rattle.ti_parse.specs.Mirrors.ParserParams.{language_params}
use Rattle.ti_parse.specs.Mirrors.Statements.{stmt, items}
use Rattle.ti_parse_expr.proofs.Lemmas.{one_more}
use Rattle.ti_parse.proofs.stmts.Statements.items.Goals as goal

pub loop-turn-preserved : goal.loop-turn-preserved
unfolding items
loop-turn-preserved g c =
    let e = one_more (λ n. items language_params c.args.self.now.parser.fuel (stmt language_params c.args.self.now.parser.fuel c.args.self.now.levels) n
    (stms_of c.loop-turn.found) c.loop-turn.tokens) _ c.loop-turn._turn c.loop-turn-test.true c.loop-turn.invariant in
    first_of (search rules, grind (arith, common_steps))

pub returns-then-next_is : goal.returns-then-next_is
unfolding items
returns-then-next_is g c =
    let e = one_more (λ n. items language_params c.args.self.now.parser.fuel (stmt language_params c.args.self.now.parser.fuel c.args.self.now.levels) n
    (stms_of c.loop-turn.found) c.loop-turn.tokens) _ c.loop-turn._turn c.loop-turn-test.true c.loop-turn.invariant in
    first_of (search rules, grind (arith, common_steps))

pub returns-in_err-item : goal.returns-in_err-item
unfolding items
returns-in_err-item g c =
    let e = one_more (λ n. items language_params c.args.self.now.parser.fuel (stmt language_params c.args.self.now.parser.fuel c.args.self.now.levels) n
    (stms_of c.loop-turn.found) c.loop-turn.tokens) _ c.loop-turn._turn c.loop-turn-test.true c.loop-turn.invariant in
    first_of (search rules, grind (arith, common_steps))
