use Rattle.std.proofs.Common.{subst}
use Rattle.ti_lang.specs.Program.Statements.{Call}
use Rattle.ti_lang.specs.Program.Views.{expression_of}
use Rattle.ti_lang.specs.Meaning.Comp.{Comp}
use Rattle.ti_lang.specs.Meaning.Moves.{Move}
use Rattle.ti_eval.specs.Comes.{ComesAs}
use Rattle.ti_eval.specs.Envs.{env_of}
use Rattle.ti_moves.specs.Outcomes.{move_after}
use Rattle.ti_moves.proofs.Coming.{other_dropped}
use Rattle.ti_moves.proofs.statements.plain_expr_stmt.Goals as goal

pub returns-in_default : goal.returns-in_default
returns-in_default c =
    let E = env_of c.args.env.now in
    let s = Call (expression_of c.args.expr.now) in
    subst (λ (go : Comp Move). ComesAs (move_after E s) c.evaluate_and_drop.result (go c.args.answers.now)) (other_dropped E c.args.expr.now c.in_default.not-Member) (c.evaluate_and_drop.ensures s)
