use Rattle.std.proofs.Common.{subst}
use Rattle.ti_code.specs.Effects.{top, below, binary_operator_of}
use Rattle.ti_machine.specs.Mirrors.FrameStates.{local_state_of, ValueOutcome}
use Rattle.ti_lang.specs.Meaning.Operators.{apply_binary}
use Rattle.ti_lang.proofs.Lemmas.{operated_silent}
use Rattle.ti_machine.proofs.Tellings.{silent_tells}
use Rattle.ti_machine.proofs.frame.state.FrameState.operate.Goals as goal

pub returns : goal.returns
returns c w =
    let s = local_state_of c.args.self.now in
    let at = c.args.place in
    let o = c.operator.result in
    let x = c.in_ok-x.x in
    let y = c.in_ok-x.y in
    let r = c.value_of-got.result in
    let given : ValueOutcome r (apply_binary at o x y) = c.value_of-got.ensures (apply_binary at o x y) (silent_tells (apply_binary at o x y) (operated_silent at o x y)) c.apply_binary.ensures in
    c.push_result.ensures s (below (below s.stack)) (apply_binary at (binary_operator_of c.args.operation) (top (below s.stack)) (top s.stack)) c.in_ok-x.ensures.rest c.requires.next
    (subst (λ z. ValueOutcome r (apply_binary at z (top (below s.stack)) (top s.stack))) c.operator.ensures
    (subst (λ z. ValueOutcome r (apply_binary at o z (top s.stack))) c.in_ok-x.ensures.under (subst (λ z. ValueOutcome r (apply_binary at o x z)) c.in_ok-x.ensures.last given)))
