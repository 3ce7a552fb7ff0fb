use Rattle.std.proofs.Common.{◌≡◌, ℕ, ◌+◌, ◌-◌, None, get_or, length}
use Rattle.ti_infer.proofs.places.make_room.Given as goal

abbrev pub invariant-loop-places : goal.invariant-loop-places
invariant-loop-places l = (n : ℕ) → get_or l.places.items n None ≡ get_or l.initial.places.items n None

abbrev pub decreases-loop-places : goal.decreases-loop-places
decreases-loop-places l = l.number + 1 - length l.places.items
