use Rattle.std.proofs.Common.{◌∙◌, ◌≤◌, Bool, ap, count_by, length, arith}
use Rattle.ti_lang.specs.Meaning.Held.{Held, referent_of}
use Rattle.ti_lang.specs.Meaning.Steps.{lies_in}
use Rattle.ti_machine.proofs.Reversed.{count_reversed, take_whole}
use Rattle.ti_machine.proofs.frame.state.FrameState.count_refs_into.Goals as goal

pub returns : goal.returns
returns c =
    let p : Held → Bool = λ h. lies_in c.args.region (referent_of h) in
    let xs = c.deref-h-items.result.now in
    let every : length xs ≤ c.loop-h.h-index = omega arith in
    c.loop-h.invariant ∙ (ap (count_by p) (take_whole xs c.loop-h.h-index every) ∙ (ap (count_by p) c.deref-h-items.ensures.value ∙ count_reversed p c.args.self.now.slots.items))
