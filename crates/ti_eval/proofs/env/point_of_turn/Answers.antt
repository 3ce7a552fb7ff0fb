use Rattle.std.proofs.Common.{arith, ap, sym, ◌∙◌}
use Rattle.ti_eval.specs.declared.frame.StmtFrame.{StmtFrame}
use Rattle.ti_eval.proofs.Turning.{turn_found, no_turn}
use Rattle.ti_eval.proofs.env.point_of_turn.Goals as goal

pub returns-then-variable-number-clause-value : goal.returns-then-variable-number-clause-value
returns-then-variable-number-clause-value c = λ site body.
    turn_found site body c.args.levels.now c.loop-n.n c.index-levels-n.result c.args.number c.in-Turn.variable c.in-Turn.domain c.in-Turn.at (omega (arith, c.loop-n-test.true))
    (omega (arith, c.loop-n.invariant.within)) (ap (λ (l : StmtFrame). l.resume) (sym c.index-levels-n.is) ∙ c.in-Turn.is) c.if-variable-number.true c.loop-n.invariant.same

pub returns-clause-value : goal.returns-clause-value
returns-clause-value c = λ site body. no_turn site body c.args.levels.now c.loop-n.n c.args.number (omega (arith, c.loop-n-test.false)) c.loop-n.invariant.same
