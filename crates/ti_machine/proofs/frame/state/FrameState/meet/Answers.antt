use Rattle.std.proofs.Common.{◌≡◌, ◌∙◌, ◌∷◌, ◌+◌, ap, sym, ℕ}
use Rattle.ti_lang.specs.Meaning.Held.{rect_of}
use Rattle.ti_code.specs.Effects.{LocalState, top, below, on_with, common_domain}
use Rattle.ti_machine.specs.Mirrors.FrameStates.{local_state_of}
use Rattle.ti_lang.specs.Meaning.Comp.{Gives}
use Rattle.ti_machine.proofs.frame.state.FrameState.meet.Goals as goal

pub returns : goal.returns
returns c w rs =
    let s = local_state_of c.args.self.now in
    let x : c.rect.result ≡ rect_of (top (below s.stack)) = c.rect.ensures.value ∙ ap rect_of c.in_ok-x.ensures.under in
    let y : c.rect-2.result ≡ rect_of (top s.stack) = c.rect-2.ensures.value ∙ ap rect_of c.in_ok-x.ensures.last in
    let h : c.in_ok-h.h ≡ common_domain (rect_of (top (below s.stack))) (rect_of (top s.stack)) = c.in_ok-h.ensures ∙ (λ i. common_domain (x i) (y i)) in
    let p = c.push.new.self in
    let pushed : local_state_of p ≡ record s { stack = c.in_ok-h.h ∷ below (below s.stack) } = c.in_ok-push.ensures
    ∙ ap (λ (u : LocalState). record { at = u.at; slots = u.slots; stack = c.in_ok-h.h ∷ u.stack }) c.in_ok-x.ensures.rest in
    ap (λ z. Gives (on_with s s.slots (z ∷ below (below s.stack))) rs) (sym h)
    ∙ (ap (λ (u : LocalState). Gives (record { at = s.at + 1; slots = u.slots; stack = u.stack }) rs) (sym pushed)
    ∙ ap (λ (n : ℕ). Gives (record { at = n; slots = (local_state_of p).slots; stack = (local_state_of p).stack }) rs) (sym c.requires.next))
