use Rattle.std.proofs.Common.{arith}
use mathlib.Core.Option.{none}
use Rattle.atomic_table.specs.Table.{step}
use Rattle.ti_turnstile.specs.Mirrors.Views.{log_in_box}
use Rattle.ti_turnstile.proofs.Steps.{announces}
use Rattle.ti_turnstile.proofs.turnstile.Turnstile.announce.Goals as goal

pub store-requires : goal.store-requires
store-requires g c =
    let shared = c.args.self.now.table.shared in
    let shape = c.args.self.now.shape in (
      c.requires,
      omega (arith, shape.0),
      announces (log_in_box g.V.Kept.log) shared.key shared.table_id.slots c.args.seat.now.id c.args.hint
          c.args.seat.now.me (step shared.table_id.slots 1 c.args.hint 0 none),
    )
