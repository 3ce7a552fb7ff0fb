use Rattle.std.proofs.lemmas.Result.{on_ok_weaker}
use Rattle.ti_blame.proofs.Opened.{put_open, steps_open}
use Rattle.ti_blame.proofs.worklist.add_implication.Goals as goal

pub returns-in-Some-clause-opened : goal.returns-in-Some-clause-opened
returns-in-Some-clause-opened c =
    on_ok_weaker c.register.result (λ put. put_open c.args.items.now c.args.state.now c.args.waiting.now c.register.new.waiting c.in-Some.m c.args.implication
    c.in-Some.ensures.some.0 c.in-Some.ensures.some.1 put) c.register.ensures

pub returns-in-None-clause-opened : goal.returns-in-None-clause-opened
returns-in-None-clause-opened c =
    on_ok_weaker c.rule_out_conclusion.result (λ step. steps_open c.args.items.now c.args.state.now c.rule_out_conclusion.new.state c.args.waiting.now step) c.rule_out_conclusion.ensures.step
