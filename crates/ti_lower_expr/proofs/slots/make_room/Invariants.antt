use Rattle.std.proofs.Common.{◌≡◌, ℕ, ◌+◌, ◌-◌, get_or, length}
use Rattle.ti_lower_expr.proofs.slots.make_room.Given as goal

abbrev pub invariant-loop-latest : goal.invariant-loop-latest
invariant-loop-latest l = (n : ℕ) → get_or l.latest.items n 0 ≡ get_or l.initial.latest.items n 0

abbrev pub decreases-loop-latest : goal.decreases-loop-latest
decreases-loop-latest l = l.number + 1 - length l.latest.items
