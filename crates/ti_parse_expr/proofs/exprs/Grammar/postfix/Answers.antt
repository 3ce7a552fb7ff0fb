use Rattle.std.proofs.Common.{rules, arith}
use Rattle.std.proofs.lemmas.Grind.{common_steps}
use Rattle.ti_parse_expr.specs.Mirrors.Seen.{operand_of}
use Rattle.ti_parse_expr.specs.Mirrors.Exprs.{expr, postfix}
use Rattle.ti_parse_expr.proofs.Turns.{one_more}
use Rattle.ti_parse_expr.proofs.exprs.Grammar.postfix.Goals as goal

pub loop-turn-preserved : goal.loop-turn-preserved
unfolding postfix
loop-turn-preserved g c =
    let e = one_more (λ n. postfix c.args.self.now.fuel (expr c.args.self.now.fuel) n (operand_of c.loop-turn.left) c.loop-turn.tokens) _
    c.loop-turn._turn c.loop-turn-test.true c.loop-turn.invariant in
    first_of (search rules, grind (arith, common_steps))

pub returns-in_default : goal.returns-in_default
unfolding postfix
returns-in_default g c =
    let e = one_more (λ n. postfix c.args.self.now.fuel (expr c.args.self.now.fuel) n (operand_of c.loop-turn.left) c.loop-turn.tokens) _
    c.loop-turn._turn c.loop-turn-test.true c.loop-turn.invariant in
    first_of (search rules, grind (arith, common_steps))

pub returns-in_err-left-in-Dot : goal.returns-in_err-left-in-Dot
unfolding postfix
returns-in_err-left-in-Dot g c =
    let e = one_more (λ n. postfix c.args.self.now.fuel (expr c.args.self.now.fuel) n (operand_of c.loop-turn.left) c.loop-turn.tokens) _
    c.loop-turn._turn c.loop-turn-test.true c.loop-turn.invariant in
    first_of (search rules, grind (arith, common_steps))

pub returns-in_err-left-in-LeftBracket : goal.returns-in_err-left-in-LeftBracket
unfolding postfix
returns-in_err-left-in-LeftBracket g c =
    let e = one_more (λ n. postfix c.args.self.now.fuel (expr c.args.self.now.fuel) n (operand_of c.loop-turn.left) c.loop-turn.tokens) _
    c.loop-turn._turn c.loop-turn-test.true c.loop-turn.invariant in
    first_of (search rules, grind (arith, common_steps))
