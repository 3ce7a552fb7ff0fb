use Rattle.std.proofs.Common.{◌≡◌, ◌+◌, length}
use Rattle.std.specs.List.{All}
use Rattle.ti_turnstile.specs.Turnstiles.{identity_of, turnstile_of, AreNew}
use Rattle.ti_tests.proofs.turnstiles.members.members_of.Given as goal

abbrev pub invariant-loop-pass : goal.invariant-loop-pass
invariant-loop-pass l = record {
  left : length l.passes.items ≡ l.number;
  count : length l.members.items + length l.passes.items ≡ l.n;
  new : AreNew (identity_of l.turnstile) l.passes.items;
  members : All (λ m. turnstile_of m.pass ≡ identity_of l.turnstile) l.members.items;
}

abbrev pub decreases-loop-pass : goal.decreases-loop-pass
decreases-loop-pass l = length l.passes.items
