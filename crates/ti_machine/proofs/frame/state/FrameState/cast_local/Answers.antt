use Rattle.std.proofs.Common.{subst}
use Rattle.ti_lang.specs.Program.Types.{Class}
use Rattle.ti_code.specs.Effects.{top, below}
use Rattle.ti_machine.specs.Mirrors.FrameStates.{local_state_of, ValueOutcome}
use Rattle.std.specs.Prelude.{true}
use Rattle.ti_lang.specs.Meaning.Evaluation.{kept_local}
use Rattle.ti_lang.proofs.Lemmas.{kept_silent}
use Rattle.ti_machine.proofs.Tellings.{silent_tells}
use Rattle.ti_machine.proofs.frame.state.FrameState.cast_local.Goals as goal

pub returns : goal.returns
returns c rs =
    let s = local_state_of c.args.self.now in
    let at = c.args.place in
    let n = c.args.team.number in
    let h = c.in_ok-h.h in
    let r = c.value_of-got.result in
    let given : ValueOutcome r (kept_local n at (Class 0 true) h) =
    c.value_of-got.ensures (kept_local n at (Class 0 true) h) (silent_tells (kept_local n at (Class 0 true) h) (kept_silent n at (Class 0 true) h)) c.check_local.ensures in
    c.push_result.ensures s (below s.stack) (kept_local n at (Class 0 true) (top s.stack)) c.in_ok-h.ensures.rest c.requires.next
    (subst (λ z. ValueOutcome r (kept_local n at (Class 0 true) z)) c.in_ok-h.ensures.value given)
