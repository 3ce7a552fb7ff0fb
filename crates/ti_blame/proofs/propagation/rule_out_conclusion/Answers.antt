use Rattle.std.proofs.Common.{◌≡◌, Ok}
use Rattle.ti_blame.proofs.Stepping.{done_stays}
use Rattle.std.proofs.lemmas.Result.{on_ok_weaker}
use Rattle.ti_blame.proofs.propagation.rule_out_conclusion.Goals as goal

pub returns-in-One-clause-done : goal.returns-in-One-clause-done
returns-in-One-clause-done c = on_ok_weaker c.rule_out_reason.result
    (λ step. done_stays c.args.items.now c.args.state.now c.rule_out_reason.new.state step c.rule_out_reason.ensures.done c.requires)
    c.rule_out_reason.ensures.step
