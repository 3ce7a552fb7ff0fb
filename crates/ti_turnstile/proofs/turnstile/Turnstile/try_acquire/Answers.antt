use Rattle.std.proofs.Common.{arith}
use mathlib.Core.Option.{none}
use Rattle.atomic_table.specs.Table.{step}
use Rattle.ti_turnstile.specs.Mirrors.Views.{log_in_box}
use Rattle.ti_turnstile.proofs.Steps.{tries_from}
use Rattle.ti_turnstile.proofs.turnstile.Turnstile.try_acquire.Goals as goal

pub compare_exchange-found-requires : goal.compare_exchange-found-requires
compare_exchange-found-requires g c =
    let shared = c.args.self.now.table.shared in
    let shape = c.args.self.now.shape in
    (c.requires.table, omega (arith, shape.0), tries_from (log_in_box g.V.Kept.log) shared.key shared.table_id.slots c.args.seat.now.id c.args.seat.now.me (step shared.table_id.slots 0 0 1 none) c.requires.pass)
