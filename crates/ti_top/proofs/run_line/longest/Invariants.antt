use Rattle.std.proofs.Common.{ℕ, ◌^◌, ◌<◌, ◌≤◌, [], length, get_or}
use Rattle.ti_top.proofs.run_line.longest.Given as goal

abbrev pub invariant-literals : goal.invariant-literals
invariant-literals l = record { each : (k : ℕ) → k < l.literal-index → length (get_or l.literals k []) ≤ l.longest; bound : l.longest < 2 ^ 63 }
