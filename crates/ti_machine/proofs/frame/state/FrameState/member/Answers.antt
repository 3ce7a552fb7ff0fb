use Rattle.std.proofs.Common.{◌≡◌, ◌∙◌, ap, subst, ℕ, []}
use Rattle.ti_lang.specs.Program.Types.{Void}
use Rattle.ti_code.specs.Effects.{LocalState, top, below, under, top_operands, built_in_member}
use Rattle.ti_machine.specs.Mirrors.FrameStates.{local_state_of, ValueOutcome}
use Rattle.std.specs.Prelude.{Some}
use Rattle.ti_lang.specs.Typing.TyRef.{built_in_of}
use Rattle.ti_lang.specs.Meaning.MemberForms.{member_value}
use Rattle.ti_machine.proofs.Tellings.{member_tells}
use Rattle.ti_machine.proofs.frame.state.FrameState.member.Goals as goal

pub returns : goal.returns
returns c w =
    let s = local_state_of c.args.self.now in
    let at = c.args.place in
    let n : c.from.result ≡ c.args.count = c.from.ensures in
    let taken_is : c.in_ok-args.args.items ≡ top_operands c.args.count s.stack [] = c.in_ok-args.ensures.args ∙ ap (λ (k : ℕ). top_operands k s.stack []) n in
    let rest : local_state_of c.take_args.new.self ≡ record s { stack = under c.args.count s.stack } = c.in_ok-args.ensures.rest ∙ ap (λ (k : ℕ). record s { stack = under k s.stack }) n in
    let popped : local_state_of c.pop.new.self ≡ record s { stack = below (under c.args.count s.stack) } =
    c.in_ok-h.ensures.rest ∙ ap (λ (u : LocalState). record { at = u.at; slots = u.slots; stack = below u.stack }) rest in
    let value : c.in_ok-h.h ≡ top (under c.args.count s.stack) = c.in_ok-h.ensures.value ∙ ap (λ (u : LocalState). top u.stack) rest in
    let h = c.in_ok-h.h in
    let k = built_in_of c.built_in.result in
    let xs = c.deref.result.now in
    let r = c.value_of-got.result in
    let args : xs ≡ top_operands c.args.count s.stack [] = c.deref.ensures.value ∙ taken_is in
    let given : ValueOutcome r (member_value at Void (Some k) Void h xs) = c.value_of-got.ensures (member_value at Void (Some k) Void h xs) (member_tells at Void k Void h xs) (c.member.ensures Void Void) in
    c.push_result.ensures s (below (under c.args.count s.stack)) (member_value at Void (Some (built_in_member c.args.kind)) Void (top (under c.args.count s.stack)) (top_operands c.args.count s.stack [])) popped c.requires.next
    (subst (λ z. ValueOutcome r (member_value at Void (Some z) Void (top (under c.args.count s.stack)) (top_operands c.args.count s.stack []))) c.built_in.ensures
    (subst (λ z. ValueOutcome r (member_value at Void (Some k) Void z (top_operands c.args.count s.stack []))) value (subst (λ zs. ValueOutcome r (member_value at Void (Some k) Void h zs)) args given)))
