use Rattle.std.proofs.Common.{◌∙◌, ap, sym, subst}
use Rattle.ti_machine.specs.ProcView.{is_act}
use Rattle.ti_store.specs.Stores.{StoreState}
use Rattle.ti_turnstile.specs.Turnstiles.{seen_by, value_inside}
use Rattle.ti_pending.specs.declared.pending.PendingProc.{PendingProc}
use Rattle.ti_pending.specs.UpToDate.{IsUpToDate}
use Rattle.ti_pending.specs.Acting.{ReceivesAnswer}
use Rattle.ti_pending.proofs.Lemmas.{acting}
use Rattle.ti_runtime.proofs.Tasks.{seated_inside, seated_gone, seated_advanced, seated_refused, seated_seen}
use Rattle.ti_runtime.proofs.threads.task.Task.try_turn.Goals as goal

pub advance-requires-clause-code : goal.advance-requires-clause-code
advance-requires-clause-code g c = c.requires.code ∙ sym (ap (λ t. t.code) c.self.invariant.2.answers)

pub advance-requires-clause-goes : goal.advance-requires-clause-goes
advance-requires-clause-goes g c = (c.self.invariant.2.next, c.self.invariant.2.has_next)

pub act-acted-requires-clause-next : goal.act-acted-requires-clause-next
act-acted-requires-clause-next g c =
    let code = g.J.CodeOf.code in
    let s = g.J.RunConfigOf.config in
    let me = c.self.inside in
    let inv = c.self.invariant in
    let y = subst (λ (x : StoreState). IsUpToDate code s x.entries me.number me.pending) (sym c.value.ensures.value)
    (seated_inside code s (value_inside c.enter-inside.result).entries _ me.number (seen_by me.pass) me.pending inv.1 c.enter-inside.ensures.legal inv.2) in
    acting code s c.value.result.now.entries me.number me.pending y c.next_is_unique.ensures c.in-Ok.next c.in-Ok.ensures.next c.if-self.false

pub invariant_of-result : goal.invariant_of-result
invariant_of-result g c =
    let code = g.J.CodeOf.code in
    let s = g.J.RunConfigOf.config in
    let me = c.self.inside in
    let inv = c.self.invariant in
    let store = c.value.result.now in
    let y = subst (λ (x : StoreState). IsUpToDate code s x.entries me.number me.pending) (sym c.value.ensures.value)
    (seated_inside code s (value_inside c.enter-inside.result).entries _ me.number (seen_by me.pass) me.pending inv.1 c.enter-inside.ensures.legal inv.2) in
    let next = c.in-Ok.next in
    let answer = c.in-Ok-acted.answer in
    let pending = c.resume_with.new.self in
    let heard = subst (λ (x : PendingProc). ReceivesAnswer x next answer pending) c.in-Ok.ensures.asks c.resume_with.ensures in
    let after = c.act-acted.new.store in (
      inv.0,
      c.leave-pass.ensures.number ∙ c.enter-inside.ensures.number ∙ inv.1,
      seated_seen code s after.entries me.number (seen_by c.leave-pass.result) pending c.leave-pass.ensures.seen
          (seated_gone code s store after me.number me.pending c.requires.may c.act-acted.ensures.terms c.act-acted.ensures.run inv.0 c.if-self.false y
          c.next_is_unique.ensures next c.in-Ok.ensures.next answer c.in-Ok-acted.ensures.done (is_act next) pending heard),
    )

pub invariant_of-handle_refusal : goal.invariant_of-handle_refusal
invariant_of-handle_refusal g c =
    let code = g.J.CodeOf.code in
    let s = g.J.RunConfigOf.config in
    let me = c.self.inside in
    let inv = c.self.invariant in
    let store = c.value.result.now in
    let y = subst (λ (x : StoreState). IsUpToDate code s x.entries me.number me.pending) (sym c.value.ensures.value)
    (seated_inside code s (value_inside c.enter-inside.result).entries _ me.number (seen_by me.pass) me.pending inv.1 c.enter-inside.ensures.legal inv.2) in
    let next = c.in-Ok.next in
    let after = c.act-acted.new.store in (
      inv.0,
      c.leave-pass-in-Err.ensures.number ∙ c.enter-inside.ensures.number ∙ inv.1,
      seated_seen code s after.entries me.number (seen_by c.leave-pass-in-Err.result) c.advance.new.self c.leave-pass-in-Err.ensures.seen
          (seated_refused code s store after me.number c.advance.new.self next c.in-Err.why c.in-Err.ensures.refused
          (seated_advanced code s store.entries me.number me.pending c.advance.new.self (is_act next) c.in-Ok.ensures.asks y)),
    )
