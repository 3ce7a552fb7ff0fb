use Rattle.std.proofs.Common.{◌<◌, ℕ, map, subst}
use Rattle.ti_turnstile.specs.PassViews.{HasNumber}
use Rattle.ti_turnstile.specs.Turnstiles.{pass_view_of}
use Rattle.ti_runtime.proofs.Joining.{all_filled, all_seated}
use Rattle.ti_runtime.proofs.threads.joined.join_workers.Goals as goal

pub in_order-processes-requires-clause-filled : goal.in_order-processes-requires-clause-filled
in_order-processes-requires-clause-filled g c =
    let back = c.place_all-passes in
    all_filled g.J.CodeOf.code g.J.RunConfigOf.config back.result.places.items back.ensures.places back.result.passes.items back.ensures.placed
    (subst (λ n. (k : ℕ) → k < n → HasNumber k (map pass_view_of back.result.passes.items)) c.requires.procs c.close-store.ensures.all)

pub returns-clause-seated : goal.returns-clause-seated
returns-clause-seated g c =
    let back = c.place_all-passes in
    all_seated g.J.CodeOf.code g.J.RunConfigOf.config back.result.places.items back.ensures.places back.result.passes.items
    c.close-store.result.entries c.in_order-processes.result.items c.close-store.ensures.legal back.ensures.back
    c.in_order-processes.ensures.count c.in_order-processes.ensures.each
