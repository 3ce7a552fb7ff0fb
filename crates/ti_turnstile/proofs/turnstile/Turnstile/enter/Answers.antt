use Rattle.std.proofs.Common.{rules, ◌∙◌, ap, sym, subst}
use Rattle.ti_turnstile.specs.declared.seat_view.SeatView.{SeatView}
use Rattle.ti_turnstile.specs.PassViews.{first_number}
use Rattle.ti_turnstile.specs.Mirrors.Views.{HasValue, inside, log_in_box}
use Rattle.ti_turnstile.proofs.turnstile.Turnstile.enter.Goals as goal
use Rattle.ti_turnstile.proofs.turnstile.Turnstile.enter.Goals.{in-None, in-Some+then-spin_acquire}

pub take_value-requires-clause-value : goal.take_value-requires-clause-value
take_value-requires-clause-value g c = elim c.match-next.branch [
  | in-None w ↦ search rules
  | in-Some+then-spin_acquire w ↦
      let log = log_in_box g.V.Kept.log in
      let h = w.spin_acquire.ensures.entered w.if-spin_acquire.true in
      subst (HasValue log) (ap (λ s. s.me) (sym w.seat-is))
      (h.2, h.4 ∙ ap (λ k. inside k (log h.2)) (sym (ap (λ (v : SeatView g.row.V-Item.Denot). first_number v.passes) h.4)), h.5)
]
