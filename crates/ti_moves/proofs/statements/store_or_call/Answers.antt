use Rattle.std.proofs.Common.{Option, sym, subst}
use Rattle.ti_lang.specs.Program.Views.{expression_of, statement_of}
use Rattle.ti_lang.specs.Meaning.Calls.{Call}
use Rattle.ti_lang.specs.Meaning.Evaluation.{eval}
use Rattle.ti_lang.specs.Meaning.Moves.{receives}
use Rattle.ti_lang.specs.Meaning.Processes.{Receiver}
use Rattle.ti_lang.specs.Meaning.Statements.{valued_or_called}
use Rattle.ti_eval.specs.Comes.{ComesAs}
use Rattle.ti_eval.specs.Envs.{env_of}
use Rattle.ti_moves.specs.Outcomes.{move_after}
use Rattle.ti_moves.specs.Receiving.{receiver_of}
use Rattle.ti_moves.proofs.statements.store_or_call.Goals as goal

pub returns-in-Some : goal.returns-in-Some
returns-in-Some c =
    let E = env_of c.args.env.now in
    let x = statement_of c.args.stmt.now in
    let e = expression_of c.args.expr.now in
    subst (λ (o : Option Call). ComesAs (move_after E x) c.call_outcome.result (valued_or_called E (receiver_of x) e o c.args.answers.now)) (sym c.in-Some.ensures) (c.call_outcome.ensures x)

pub returns-in-None : goal.returns-in-None
returns-in-None c =
    let E = env_of c.args.env.now in
    let x = statement_of c.args.stmt.now in
    let e = expression_of c.args.expr.now in
    subst (λ (o : Option Call). ComesAs (move_after E x) c.store_value.result (valued_or_called E (receiver_of x) e o c.args.answers.now)) (sym c.in-None.ensures)
    (subst (λ (r : Receiver). ComesAs (move_after E x) c.store_value.result (receives E r (eval E e) c.args.answers.now)) c.dest_at.ensures (c.store_value.ensures x))
