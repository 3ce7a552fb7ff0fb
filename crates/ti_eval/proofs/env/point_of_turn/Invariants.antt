use Rattle.std.proofs.Common.{◌≡◌, ◌≤◌, take, length, reverse}
use Rattle.ti_lang.specs.Meaning.Turns.{point_at}
use Rattle.ti_eval.proofs.Turning.{turns_rest}
use Rattle.ti_eval.proofs.env.point_of_turn.Given as goal

abbrev pub invariant-loop-n : goal.invariant-loop-n
invariant-loop-n l = record {
  within : l.n ≤ length l.levels;
  same : point_at l.number (turns_rest (reverse l.levels)) ≡ point_at l.number (turns_rest (reverse (take l.n l.levels)));
}

abbrev pub decreases-loop-n : goal.decreases-loop-n
decreases-loop-n l = l.n
