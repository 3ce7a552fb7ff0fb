use Rattle.std.proofs.Common.{arith, ap, sym, ◌∙◌, false}
use Rattle.ti_turnstile.specs.declared.seat_view.SeatView.{SeatView}
use Rattle.ti_turnstile.specs.Mirrors.Views.{log_in_box, view}
use Rattle.ti_turnstile.proofs.Steps.{joins_from}
use Rattle.ti_turnstile.proofs.turnstile.Turnstile.join_pass.Goals as goal

pub join_seat-requires : goal.join_seat-requires
join_seat-requires g c =
    let shared = c.args.self.now.table.shared in
    let shape = c.args.self.now.shape in
    let is = c.args.pass.is_pass in (
      c.requires.table.0,
      c.requires.table.1,
      ap (λ m. m.1) c.requires.other,
      omega (arith, shape.0),
      joins_from (log_in_box g.V.Kept.log) shared.key c.args.pass.seat.id c.args.other.id c.args.pass.seat.me.0 c.args.other.me.0 (is.0
          ∙ ap (λ (v : SeatView _). view false v.passes) (sym is.0)) (ap (λ m. m.0) c.requires.other),
    )
