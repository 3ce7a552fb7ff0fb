use Rattle.std.proofs.Common.{sym, subst}
use Rattle.ti_eval.specs.Comes.{Comes}
use Rattle.ti_eval.specs.Envs.{env_of}
use Rattle.ti_moves.specs.declared.assign.RightSide.{RightSide}
use Rattle.ti_moves.specs.Receiving.{right_seen}
use Rattle.ti_moves.proofs.assign.value_of.Goals as goal

pub returns-in-Value : goal.returns-in-Value
returns-in-Value c =
    subst (λ (r : RightSide). Comes c.evaluate.result (right_seen (env_of c.args.env.now) r c.args.answers.now)) (sym c.in-Value.is) c.evaluate.ensures
