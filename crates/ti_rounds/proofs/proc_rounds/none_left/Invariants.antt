use Rattle.std.proofs.Common.{ℕ, ◌<◌}
use Rattle.ti_rounds.specs.Seats.{left_by}
use Rattle.ti_rounds.proofs.proc_rounds.none_left.Given as goal

abbrev pub invariant-loop-seat : goal.invariant-loop-seat
invariant-loop-seat l = (q : ℕ) → q < l.seat-index → left_by l.seats q < l.round
