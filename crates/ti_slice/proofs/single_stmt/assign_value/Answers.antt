use Rattle.std.proofs.Common.{Option, sym, subst}
use Rattle.ti_lang.specs.Program.Views.{expression_of, statement_of}
use Rattle.ti_lang.specs.Meaning.Calls.{Call}
use Rattle.ti_align.specs.Slice.{single_value}
use Rattle.ti_eval.specs.Comes.{ComesAs}
use Rattle.ti_eval.specs.Envs.{env_of}
use Rattle.ti_moves.specs.Outcomes.{move_after}
use Rattle.ti_moves.specs.Receiving.{receiver_of}
use Rattle.ti_slice.proofs.StatedForms.{called_first}
use Rattle.ti_slice.proofs.single_stmt.assign_value.Goals as goal

pub returns-in-Some : goal.returns-in-Some
returns-in-Some c =
    let x = statement_of c.args.stmt.now in
    called_first (env_of c.args.env.now) x (expression_of c.args.expr.now) c.args.answers.now c.in-Some.came (c.in-Some.ensures x)

pub returns-in-None : goal.returns-in-None
returns-in-None c =
    let E = env_of c.args.env.now in
    let x = statement_of c.args.stmt.now in
    subst (λ (o : Option Call). ComesAs (move_after E x) c.receive.result
    (single_value E (receiver_of x) (expression_of c.args.expr.now) o c.args.answers.now)) (sym (c.in-None.ensures x)) c.receive.ensures
