use Rattle.std.proofs.Common.{subst, sym}
use Rattle.ti_turnstile.specs.Mirrors.Views.{IsLeaving, log_in_box}
use Rattle.ti_turnstile.proofs.turnstile.Turnstile.leave_and_wake_all.Goals as goal

pub release-pass-requires-clause-leaving : goal.release-pass-requires-clause-leaving
release-pass-requires-clause-leaving g c =
    subst (IsLeaving (log_in_box g.V.Kept.log)) (sym c.announce.ensures.same) c.put_value-seat.ensures.leaving
