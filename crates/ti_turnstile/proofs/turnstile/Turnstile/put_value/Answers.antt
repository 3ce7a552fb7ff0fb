use Rattle.std.proofs.Common.{◌≡◌, ◌∷◌, [], ◌∙◌, ap, sym, subst, refl, Some}
use Rattle.atomic_table.specs.Table.{rest}
use Rattle.ti_turnstile.specs.Mirrors.Views.{IsLeaving, log_in_box}
use Rattle.ti_turnstile.proofs.turnstile.Turnstile.put_value.Goals as goal

pub returns-clause-leaving : goal.returns-clause-leaving
returns-clause-leaving g c =
    let held = c.args.inside.held in
    let value = c.args.inside.value in
    let now : c.exchange.new.seat.me ≡ (held.seat.me.0, (0, Some value) ∷ []) =
    c.exchange.ensures.3 ∙ ap (λ l. (held.seat.me.0, (0, Some value) ∷ rest l)) held.is_inside.1 in
    subst (IsLeaving (log_in_box g.V.Kept.log)) (sym now) (value, held.is_inside.0, refl, c.requires.grown)
