use Rattle.std.proofs.Common.{subst, refl}
use Rattle.ti_turnstile.specs.Mirrors.Views.{HasEntered, log_in_box}
use Rattle.ti_turnstile.proofs.turnstile.Turnstile.spin_acquire.Goals as goal

pub returns-then-try_acquire-clause-entered : goal.returns-then-try_acquire-clause-entered
returns-then-try_acquire-clause-entered g c =
    λ _. subst (λ m. HasEntered (log_in_box g.V.Kept.log) m c.try_acquire.new.seat.me) c.loop-look.invariant.1 (c.if-try_acquire.ensures.entered refl)
