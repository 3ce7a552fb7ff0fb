use Rattle.std.proofs.Common.{◌≡◌, ◌∙◌, ap, subst, ℕ, [], ◌*◌}
use Rattle.ti_code.specs.Effects.{under, top_operands, range_bounds}
use Rattle.ti_machine.specs.Mirrors.FrameStates.{local_state_of, ValueOutcome}
use Rattle.ti_lang.specs.Meaning.Literals as literal
use Rattle.ti_lang.proofs.Lemmas.{silent_guarded}
use Rattle.ti_eval.specs.Bounds as found
use Rattle.ti_machine.proofs.Tellings.{silent_tells}
use Rattle.ti_machine.proofs.frame.state.FrameState.make_rect.Goals as goal

pub returns : goal.returns
returns c w =
    let s = local_state_of c.args.self.now in
    let at = c.args.place in
    let k = 3 * c.args.count in
    let n : 3 * c.from.result ≡ k = ap (λ (j : ℕ). 3 * j) c.from.ensures in
    let rest : local_state_of c.take_args.new.self ≡ record s { stack = under k s.stack } = c.in_ok-args.ensures.rest ∙ ap (λ (j : ℕ). record s { stack = under j s.stack }) n in
    let b = found.bounds_of c.in_ok-b.b in
    let bounds : b ≡ range_bounds (top_operands k s.stack []) = c.in_ok-b.ensures ∙ ap range_bounds (c.deref.ensures.value ∙ (c.in_ok-args.ensures.args ∙ ap (λ (j : ℕ). top_operands j s.stack []) n)) in
    let r = c.value_of-got.result in
    let given : ValueOutcome r (literal.rect_within at b) =
    c.value_of-got.ensures (literal.rect_within at b) (silent_tells (literal.rect_within at b) (silent_guarded _ _ at _)) c.rect_within.ensures in
    c.push_result.ensures s (under k s.stack) (literal.rect_within at (range_bounds (top_operands k s.stack []))) rest c.requires.next (subst (λ z. ValueOutcome r (literal.rect_within at z)) bounds given)
