use Rattle.std.proofs.Common.{◌≡◌}
use Rattle.ti_turnstile.specs.Turnstiles.{identity_of, turnstile_of}
use Rattle.ti_tests.proofs.turnstiles.members.add_all.Given as goal

abbrev pub invariant-loop-item : goal.invariant-loop-item
invariant-loop-item g l = turnstile_of l.member.pass ≡ identity_of l.turnstile
