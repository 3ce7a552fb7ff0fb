use Rattle.std.proofs.Common.{◌≡◌, ◌+◌, length}
use Rattle.std.specs.List.{All}
use Rattle.ti_turnstile.specs.Turnstiles.{identity_of, passes_of, turnstile_of, AreOf}
use Rattle.ti_tests.proofs.turnstiles.members.close_members.Given as goal

abbrev pub invariant-loop-member : goal.invariant-loop-member
invariant-loop-member l = record {
  count : length l.members.items + length l.passes.items ≡ passes_of l.turnstile;
  members : All (λ m. turnstile_of m.pass ≡ identity_of l.turnstile) l.members.items;
  passes : AreOf (identity_of l.turnstile) l.passes.items;
}

abbrev pub decreases-loop-member : goal.decreases-loop-member
decreases-loop-member l = length l.members.items
