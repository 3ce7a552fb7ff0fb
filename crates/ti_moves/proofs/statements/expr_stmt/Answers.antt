use Rattle.std.proofs.Common.{Option, sym, subst}
use Rattle.ti_lang.specs.Program.Statements.{Call}
use Rattle.ti_lang.specs.Program.Views.{expression_of}
use Rattle.ti_lang.specs.Meaning.Calls as calls
use Rattle.ti_lang.specs.Meaning.Statements.{alone}
use Rattle.ti_eval.specs.Comes.{ComesAs}
use Rattle.ti_eval.specs.Envs.{env_of}
use Rattle.ti_moves.specs.Outcomes.{move_after}
use Rattle.ti_moves.proofs.statements.expr_stmt.Goals as goal

pub returns-in-Some : goal.returns-in-Some
returns-in-Some c =
    let E = env_of c.args.env.now in
    let x = expression_of c.args.expr.now in
    subst (λ (o : Option calls.Call). ComesAs (move_after E (Call x)) c.call_outcome.result (alone E x o c.args.answers.now)) (sym c.in-Some.ensures) (c.call_outcome.ensures (Call x))

pub returns-in-None : goal.returns-in-None
returns-in-None c =
    let E = env_of c.args.env.now in
    let x = expression_of c.args.expr.now in
    subst (λ (o : Option calls.Call). ComesAs (move_after E (Call x)) c.plain_expr_stmt.result (alone E x o c.args.answers.now)) (sym c.in-None.ensures) c.plain_expr_stmt.ensures
