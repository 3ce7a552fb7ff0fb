use Rattle.std.proofs.Common.{arith}
use mathlib.Core.Option.{none}
use Rattle.atomic_table.specs.Table.{step}
use Rattle.ti_turnstile.specs.Mirrors.Views.{log_in_box}
use Rattle.ti_turnstile.proofs.Steps.{goes_from}
use Rattle.ti_turnstile.proofs.turnstile.Turnstile.release.Goals as goal

pub store-requires : goal.store-requires
store-requires g c =
    let shared = c.args.self.now.table.shared in
    let shape = c.args.self.now.shape in
    let v = c.requires.leaving in (
      c.requires.table,
      omega (arith, shape.0),
      goes_from (log_in_box g.V.Kept.log) shared.key shared.table_id.slots c.args.seat.id
          c.args.seat.me v.0 (step shared.table_id.slots 0 0 0 none) v.1 v.2 v.3,
    )
