use Rattle.std.proofs.Common.{ℕ, ◌<◌, ◌≤◌}
use Rattle.ti_rounds.specs.Seats.{round_at}
use Rattle.ti_rounds.proofs.proc_rounds.all_reach.Given as goal

abbrev pub invariant-loop-seat : goal.invariant-loop-seat
invariant-loop-seat l = (q : ℕ) → q < l.seat-index → l.round ≤ round_at l.seats q
