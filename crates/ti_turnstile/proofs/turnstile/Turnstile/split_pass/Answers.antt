use Rattle.std.proofs.Common.{arith}
use Rattle.ti_turnstile.specs.Mirrors.Views.{log_in_box}
use Rattle.ti_turnstile.proofs.Steps.{cuts_from}
use Rattle.ti_turnstile.proofs.turnstile.Turnstile.split_pass.Goals as goal

pub split_seat-seat-requires : goal.split_seat-seat-requires
split_seat-seat-requires g c =
    let shared = c.args.self.now.table.shared in
    let shape = c.args.self.now.shape in
    let d = c.requires.dealer in
    (c.requires.table, omega (arith, shape.0), cuts_from (log_in_box g.V.Kept.log) shared.key c.args.dealer.now.id d.0 d.1 c.args.dealer.now.me.0 d.2)
