use Rattle.std.proofs.Common.{◌∙◌, ap, sym, subst}
use Rattle.ti_lang.specs.declared.program.stmts.Init.{Init}
use Rattle.ti_lang.specs.Program.Views.{expression_of, initial_of, statement_of}
use Rattle.ti_align.specs.Slice.{single_initial}
use Rattle.ti_eval.specs.Comes.{ComesAs}
use Rattle.ti_eval.specs.Envs.{env_of}
use Rattle.ti_moves.specs.Outcomes.{move_after, type_given}
use Rattle.ti_moves.specs.Receiving.{receiver_of}
use Rattle.ti_slice.proofs.single_stmt.initialize.Goals as goal

pub returns-in-Broadcast : goal.returns-in-Broadcast
returns-in-Broadcast c =
    let E = env_of c.args.env.now in
    let x = statement_of c.args.stmt.now in
    let i = c.in-Broadcast in
    subst (λ (v : Init). ComesAs (move_after E x) c.broadcast.result (single_initial E (receiver_of x) (initial_of v) c.args.answers.now)) (sym i.is)
    (c.broadcast.ensures x (expression_of i.value) (c.requires ∙ ap (λ (v : Init). type_given E (initial_of v)) i.is))
