use Rattle.std.proofs.Common.{◌≡◌, ◌∙◌, ap, sym, ℕ, suc, ◌+◌, ◌-◌, ◌∷◌, reverse, arith}
use Rattle.ti_code.specs.Effects.{LocalState, top, below, top_operands, under}
use Rattle.ti_machine.specs.Mirrors.FrameStates.{local_state_of}
use Rattle.ti_machine.proofs.Reversed.{reverse_push}
use Rattle.ti_machine.proofs.frame.state.FrameState.take_args_into.Goals as goal

pub loop-k-preserved : goal.loop-k-preserved
loop-k-preserved c =
    let n = c.args.count in
    let k = c.loop-k.k in
    let st = (local_state_of c.loop-k.self).stack in
    let found = reverse c.loop-k.args.items in
    let one : n - k ≡ suc (n - (k + 1)) = omega arith in
    let below_is : (local_state_of c.pop.new.self).stack ≡ below st = ap (λ (s : LocalState). s.stack) c.in_ok-h.ensures.rest in
    let found_is : reverse c.push.new.self.items ≡ top st ∷ found =
    ap reverse c.in_ok-push.ensures.items ∙ (reverse_push c.loop-k.args.items c.in_ok-h.h ∙ ap (λ h. h ∷ found) c.in_ok-h.ensures.value) in
    record {
      args = c.loop-k.invariant.args ∙ (ap (λ (j : ℕ). top_operands j st found) one ∙ sym (λ i. top_operands (n - (k + 1)) (below_is i) (found_is i)));
      rest = c.loop-k.invariant.rest ∙ (ap (λ (j : ℕ). under j st) one ∙ sym (ap (under (n - (k + 1))) below_is));
      same = c.in_ok-h.ensures.rest ∙ (ap (λ (s : LocalState). record { at = s.at; slots = s.slots; stack = below st }) c.loop-k.invariant.same
          ∙ sym (ap (λ xs. record (local_state_of c.args.self.now) { stack = xs }) below_is));
    }
