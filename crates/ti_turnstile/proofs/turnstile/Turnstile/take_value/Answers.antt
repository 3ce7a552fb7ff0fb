use Rattle.std.proofs.Common.{◌∷◌, ◌∙◌, ap, sym, Some}
use Rattle.atomic_table.specs.Table.{rest}
use Rattle.ti_turnstile.proofs.turnstile.Turnstile.take_value.Goals as goal

pub exchange-requires : goal.exchange-requires
exchange-requires g c =
    let v = c.requires.value in
    (c.requires.table, (Some v.0, v.2 ∙ ap (λ l. (0, Some v.0) ∷ l) (sym (ap rest v.2))))
