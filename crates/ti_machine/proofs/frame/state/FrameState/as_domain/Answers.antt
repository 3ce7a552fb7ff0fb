use Rattle.std.proofs.Common.{subst}
use Rattle.ti_code.specs.Effects.{top, below}
use Rattle.ti_machine.specs.Mirrors.FrameStates.{local_state_of, ValueOutcome}
use Rattle.ti_lang.specs.Meaning.Conversions.{to_domain}
use Rattle.ti_lang.proofs.Lemmas.{to_domain_silent}
use Rattle.ti_machine.proofs.Tellings.{silent_tells}
use Rattle.ti_machine.proofs.frame.state.FrameState.as_domain.Goals as goal

pub returns : goal.returns
returns c w =
    let s = local_state_of c.args.self.now in
    let at = c.args.place in
    let h = c.in_ok-h.h in
    let r = c.value_of-got.result in
    let given : ValueOutcome r (to_domain at h) = c.value_of-got.ensures (to_domain at h) (silent_tells (to_domain at h) (to_domain_silent at h)) c.to_domain.ensures in
    c.push_result.ensures s (below s.stack) (to_domain at (top s.stack)) c.in_ok-h.ensures.rest c.requires.next (subst (λ z. ValueOutcome r (to_domain at z)) c.in_ok-h.ensures.value given)
