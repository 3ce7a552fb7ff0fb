use Rattle.std.proofs.Common.{ap, ◌∙◌, subst, length, sym, arith, ℕ, ◌<◌}
use Rattle.std.proofs.lemmas.List.{length-map}
use Rattle.ti_turnstile.specs.Passes.{number_at}
use Rattle.ti_base.specs.declared.entry.Entry.{Entry}
use Rattle.ti_store.specs.Stores.{StoreState, log_of}
use Rattle.ti_store.proofs.Logging.{number_logged}
use Rattle.ti_store.proofs.store.StoreKept.number_at.Goals as goal

pub returns : goal.returns
returns g c =
    let es = c.self.inside.run_state.entries.items in
    let same = c.self.view_is in
    let lt : c.args.index < length (log_of es) = subst (λ (t : StoreState). c.args.index < length (log_of t.entries)) (sym same) c.requires in
    let near : c.args.index < length es = omega (arith, lt, length-map {B = ℕ × Entry} es (λ (e : Entry). (e.proc, e))) in
    number_logged es c.args.index c.proc_at.result near c.proc_at.ensures ∙ ap (λ (t : StoreState). number_at (log_of t.entries) c.args.index) same
