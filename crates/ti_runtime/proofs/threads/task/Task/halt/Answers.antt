use Rattle.std.proofs.Common.{◌∙◌, ap, sym}
use Rattle.ti_store.specs.Stores.{StoreState, log_of}
use Rattle.ti_turnstile.specs.Turnstiles.{seen_by, value_inside}
use Rattle.ti_runtime.proofs.Tasks.{grown_by_none, seated_inside, seated_seen}
use Rattle.ti_runtime.proofs.threads.task.Task.halt.Goals as goal

pub leave_and_wake_all-pass-requires-clause-grown : goal.leave_and_wake_all-pass-requires-clause-grown
leave_and_wake_all-pass-requires-clause-grown g c =
    grown_by_none _ _ c.value.result.now.entries c.halt_for_memory.new.self.entries (c.enter-inside.ensures.found
    ∙ ap (λ (x : StoreState). log_of x.entries) (sym c.value.ensures.value))
    (ap (λ (x : StoreState). x.entries) c.halt_for_memory.ensures)

pub invariant_of-result : goal.invariant_of-result
invariant_of-result g c =
    let code = g.J.CodeOf.code in
    let s = g.J.RunConfigOf.config in
    let me = c.self.inside in
    let inv = c.self.invariant in
    let found = (value_inside c.enter-inside.result).entries in
    let same = ap (λ (x : StoreState). x.entries) c.halt_for_memory.ensures ∙ ap (λ (x : StoreState). x.entries) c.value.ensures.value in (
      inv.0,
      c.leave_and_wake_all-pass.ensures.number ∙ c.enter-inside.ensures.number ∙ inv.1,
      seated_seen code s found me.number (seen_by c.leave_and_wake_all-pass.result) me.pending (c.leave_and_wake_all-pass.ensures.seen ∙ ap log_of same)
          (seated_inside code s found _ me.number (seen_by me.pass) me.pending inv.1 c.enter-inside.ensures.legal inv.2),
    )
