use Rattle.std.proofs.Common.{rules, arith}
use Rattle.std.proofs.lemmas.Grind.{common_steps}
use Rattle.ti_syntax.specs.Trees.Views.{exps_of}
use Rattle.ti_parse_expr.specs.Mirrors.Exprs.{expr, more_args}
use Rattle.ti_parse_expr.proofs.Turns.{one_more}
use Rattle.ti_parse_expr.proofs.exprs.Grammar.more_args.Goals as goal

pub loop-turn-preserved : goal.loop-turn-preserved
unfolding more_args
loop-turn-preserved g c =
    let e = one_more (λ n. more_args c.args.self.now.fuel (expr c.args.self.now.fuel) n (exps_of c.loop-turn.found) c.loop-turn.tokens) _
    c.loop-turn._turn c.loop-turn-test.true c.loop-turn.invariant in
    first_of (search rules, grind (arith, common_steps))

pub returns-in_err-expr : goal.returns-in_err-expr
unfolding more_args
returns-in_err-expr g c =
    let e = one_more (λ n. more_args c.args.self.now.fuel (expr c.args.self.now.fuel) n (exps_of c.loop-turn.found) c.loop-turn.tokens) _
    c.loop-turn._turn c.loop-turn-test.true c.loop-turn.invariant in
    first_of (search rules, grind (arith, common_steps))

pub returns-then-not-next_is : goal.returns-then-not-next_is
unfolding more_args
returns-then-not-next_is g c =
    let e = one_more (λ n. more_args c.args.self.now.fuel (expr c.args.self.now.fuel) n (exps_of c.loop-turn.found) c.loop-turn.tokens) _
    c.loop-turn._turn c.loop-turn-test.true c.loop-turn.invariant in
    first_of (search rules, grind (arith, common_steps))
