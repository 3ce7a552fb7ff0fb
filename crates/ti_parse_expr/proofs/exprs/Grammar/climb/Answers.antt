use Rattle.std.proofs.Common.{rules, arith}
use Rattle.std.proofs.lemmas.Grind.{common_steps}
use Rattle.ti_syntax.specs.Trees.Views.{exp_of}
use Rattle.ti_parse_expr.specs.Mirrors.Exprs.{expr, climb}
use Rattle.ti_parse_expr.proofs.Turns.{one_more}
use Rattle.ti_parse_expr.proofs.exprs.Grammar.climb.Goals as goal

pub loop-turn-preserved : goal.loop-turn-preserved
unfolding climb
loop-turn-preserved g c =
    let e = one_more (λ n. climb c.args.self.now.fuel (expr c.args.self.now.fuel) c.args.least n
    (exp_of c.loop-turn.left) c.loop-turn.tokens) _ c.loop-turn._turn c.loop-turn-test.true c.loop-turn.invariant in
    first_of (search rules, grind (arith, common_steps))

pub returns-in_default : goal.returns-in_default
unfolding climb
returns-in_default g c =
    let e = one_more (λ n. climb c.args.self.now.fuel (expr c.args.self.now.fuel) c.args.least n
    (exp_of c.loop-turn.left) c.loop-turn.tokens) _ c.loop-turn._turn c.loop-turn-test.true c.loop-turn.invariant in
    first_of (search rules, grind (arith, common_steps))

pub returns-then-precedence-least : goal.returns-then-precedence-least
unfolding climb
returns-then-precedence-least g c =
    let e = one_more (λ n. climb c.args.self.now.fuel (expr c.args.self.now.fuel) c.args.least n
    (exp_of c.loop-turn.left) c.loop-turn.tokens) _ c.loop-turn._turn c.loop-turn-test.true c.loop-turn.invariant in
    first_of (search rules, grind (arith, common_steps))

pub returns-in_err-left : goal.returns-in_err-left
unfolding climb
returns-in_err-left g c =
    let e = one_more (λ n. climb c.args.self.now.fuel (expr c.args.self.now.fuel) c.args.least n
    (exp_of c.loop-turn.left) c.loop-turn.tokens) _ c.loop-turn._turn c.loop-turn-test.true c.loop-turn.invariant in
    first_of (search rules, grind (arith, common_steps))
