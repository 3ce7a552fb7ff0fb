use Rattle.std.proofs.Common.{◌∙◌, sym, arith, ap, get_or}
use Rattle.ti_lang.specs.Meaning.Held.{no_value}
use Rattle.ti_machine.proofs.frame.state.FrameState.slot.Goals as goal
use Rattle.ti_machine.proofs.Reversed.{slot_reversed}

pub returns-in_ok-copy-in-Some : goal.returns-in_ok-copy-in-Some
returns-in_ok-copy-in-Some c = c.in_ok-copy-in-Some.ensures ∙ c.in-Some.ensures.lookup.3.1 no_value
    ∙ ap (λ xs. get_or xs c.args.index no_value) c.deref.ensures.value ∙ sym (slot_reversed c.args.self.now.slots.items c.args.index)

pub returns-in-None : goal.returns-in-None
returns-in-None c = c.boolean.ensures ∙ c.in-None.ensures.lookup.4 (omega arith) no_value
    ∙ ap (λ xs. get_or xs c.args.index no_value) c.deref.ensures.value ∙ sym (slot_reversed c.args.self.now.slots.items c.args.index)
