use Rattle.std.proofs.Common.{subst}
use Rattle.ti_lang.specs.Program.Views.{statement_of}
use Rattle.ti_lang.specs.Meaning.Held.{Held}
use Rattle.ti_lang.specs.Meaning.Comp.{gives}
use Rattle.ti_eval.specs.Comes.{ComesAs}
use Rattle.ti_eval.specs.Envs.{env_of}
use Rattle.ti_moves.specs.Outcomes.{move_after}
use Rattle.ti_moves.specs.Receiving.{receiver_of}
use Rattle.ti_slice.specs.Mirrors.SingleCalls.{single_received}
use Rattle.ti_slice.proofs.single_stmt.step.Goals as goal

pub returns : goal.returns
returns c = λ at.
    let E = env_of c.args.env.now in
    let x = statement_of c.args.stmt.now in
    subst (λ (h : Held). ComesAs (move_after E x) c.receive.result (single_received E (receiver_of x) (gives h) c.args.answers.now)) c.plain-one.ensures c.receive.ensures
