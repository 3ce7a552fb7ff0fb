use Rattle.std.proofs.Common.{◌≡◌, ◌∙◌, ap, subst, ℕ, []}
use Rattle.ti_lang.specs.Program.Types.{Void}
use Rattle.ti_lang.specs.Meaning.Held.{point_of}
use Rattle.ti_code.specs.Effects.{LocalState, top, below, under, top_operands, numbers_of}
use Rattle.ti_machine.specs.Mirrors.FrameStates.{local_state_of, ValueOutcome}
use Rattle.std.specs.Prelude.{pos, slice_index_or}
use Rattle.ti_lang.specs.Meaning.CellRefs.{coordinate}
use Rattle.ti_lang.proofs.Lemmas.{silent_coordinate}
use Rattle.ti_machine.proofs.Tellings.{silent_tells}
use Rattle.ti_machine.proofs.frame.state.FrameState.coordinate.Goals as goal

pub returns : goal.returns
returns c w =
    let s = local_state_of c.args.self.now in
    let at = c.args.place in
    let n : c.from.result ≡ c.args.count = c.from.ensures in
    let taken_is : c.in_ok-args.args.items ≡ top_operands c.args.count s.stack [] = c.in_ok-args.ensures.args ∙ ap (λ (k : ℕ). top_operands k s.stack []) n in
    let rest : local_state_of c.take_args.new.self ≡ record s { stack = under c.args.count s.stack } = c.in_ok-args.ensures.rest ∙ ap (λ (k : ℕ). record s { stack = under k s.stack }) n in
    let popped : local_state_of c.pop.new.self ≡ record s { stack = below (under c.args.count s.stack) } =
    c.in_ok-h.ensures.rest ∙ ap (λ (u : LocalState). record { at = u.at; slots = u.slots; stack = below u.stack }) rest in
    let value : c.in_ok-h.h ≡ top (under c.args.count s.stack) = c.in_ok-h.ensures.value ∙ ap (λ (u : LocalState). top u.stack) rest in
    let h = c.in_ok-h.h in
    let xs = c.deref-2.result.now in
    let r = c.value_of-got.result in
    let numbers : xs ≡ numbers_of (top_operands c.args.count s.stack []) = c.deref-2.ensures.value ∙ c.in_ok-numbers.ensures ∙ ap numbers_of (c.deref.ensures.value ∙ taken_is) in
    let given : ValueOutcome r (coordinate at (point_of h) (slice_index_or xs 0 (pos 0))) =
    c.value_of-got.ensures (coordinate at (point_of h) (slice_index_or xs 0 (pos 0)))
    (silent_tells (coordinate at (point_of h) (slice_index_or xs 0 (pos 0))) (silent_coordinate at (point_of h) (slice_index_or xs 0 (pos 0)))) (c.index_value.ensures Void Void) in
    c.push_result.ensures s (below (under c.args.count s.stack)) (coordinate at (point_of (top (under c.args.count s.stack)))
    (slice_index_or (numbers_of (top_operands c.args.count s.stack [])) 0 (pos 0))) popped c.requires.next
    (subst (λ z. ValueOutcome r (coordinate at (point_of z) (slice_index_or (numbers_of (top_operands c.args.count s.stack [])) 0 (pos 0)))) value
    (subst (λ zs. ValueOutcome r (coordinate at (point_of h) (slice_index_or zs 0 (pos 0)))) numbers given))
