use Rattle.std.proofs.Common.{◌≡◌, ℕ, get_or}
use Rattle.ti_blame.proofs.done.none_done.Given as goal

abbrev pub invariant-loop : goal.invariant-loop
invariant-loop l = (i : ℕ) → get_or l.done.items i 0 ≡ 0
