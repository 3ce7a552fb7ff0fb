use Rattle.std.proofs.Common.{subst}
use Rattle.ti_lang.specs.Meaning.Comp.{gives}
use Rattle.ti_lang.specs.Meaning.Processes.{Receiver}
use Rattle.ti_lang.specs.Meaning.Moves.{receives}
use Rattle.ti_eval.specs.Comes.{ComesAs}
use Rattle.ti_eval.specs.Envs.{env_of}
use Rattle.ti_moves.specs.Outcomes.{move_after}
use Rattle.ti_moves.specs.Receiving.{stm_seen}
use Rattle.ti_moves.proofs.statements.store_received.Goals as goal

pub returns : goal.returns
returns c =
    let E = env_of c.args.env.now in
    let x = stm_seen c.args.stmt in
    subst (λ (r : Receiver). ComesAs (move_after E x) c.store_value.result (receives E r (gives c.args.value.now) c.args.answers.now)) c.dest_at.ensures (c.store_value.ensures x)
