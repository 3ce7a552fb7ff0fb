use Rattle.std.proofs.Common.{◌∙◌, ap, sym}
use Rattle.ti_exec.specs.declared.process.PendingRequest.{PendingRequest}
use Rattle.ti_exec.specs.States.{after_answer}
use Rattle.ti_exec.proofs.Asked.{asks_there}
use Rattle.ti_exec.proofs.process.TreeMachine.asks.Goals as goal

pub returns : goal.returns
returns c = λ p q go at action makes.
    let w = c.args.self.now in
    let e = c.in_ok-new.ensures.ok in
    asks_there p w q go c.in_ok-new.field-0 c.if-self.false (at ∙ sym (ap (λ (x : PendingRequest). x.place) e)) (action ∙ sym (ap (λ (x : PendingRequest). x.action) e))
    (λ r. makes r ∙ ap (λ (x : PendingRequest). after_answer p w x.on_answer r) (sym e))
