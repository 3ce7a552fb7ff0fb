use Rattle.std.proofs.Common.{rules, arith}
use Rattle.std.proofs.lemmas.Grind.{common_steps}
use Rattle.ti_syntax.specs.Trees.Views.{exps_of}
use Rattle.ti_parse_expr.specs.Mirrors.Exprs.{expr, more_parts}
use Rattle.ti_parse_expr.proofs.Turns.{one_more}
use Rattle.ti_parse_expr.proofs.exprs.Grammar.more_parts.Goals as goal

pub loop-turn-preserved : goal.loop-turn-preserved
unfolding more_parts
loop-turn-preserved g c =
    let e = one_more (λ n. more_parts c.args.self.now.fuel (expr c.args.self.now.fuel) n (exps_of c.loop-turn.found) c.loop-turn.tokens) _
    c.loop-turn._turn c.loop-turn-test.true c.loop-turn.invariant in
    first_of (search rules, grind (arith, common_steps))

pub returns-in_err-expr : goal.returns-in_err-expr
unfolding more_parts
returns-in_err-expr g c =
    let e = one_more (λ n. more_parts c.args.self.now.fuel (expr c.args.self.now.fuel) n (exps_of c.loop-turn.found) c.loop-turn.tokens) _
    c.loop-turn._turn c.loop-turn-test.true c.loop-turn.invariant in
    first_of (search rules, grind (arith, common_steps))

pub returns-then-not-next_is : goal.returns-then-not-next_is
unfolding more_parts
returns-then-not-next_is g c =
    let e = one_more (λ n. more_parts c.args.self.now.fuel (expr c.args.self.now.fuel) n (exps_of c.loop-turn.found) c.loop-turn.tokens) _
    c.loop-turn._turn c.loop-turn-test.true c.loop-turn.invariant in
    first_of (search rules, grind (arith, common_steps))
