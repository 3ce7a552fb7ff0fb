use Rattle.std.proofs.Common.{◌≡◌, ◌≤◌, length, map, reverse, take}
use Rattle.ti_lang.specs.Program.Statements.{numbered_stms}
use Rattle.ti_lang.specs.Program.Views.{statement_of}
use Rattle.ti_eval.specs.Places.{inside}
use Rattle.ti_moves.specs.Receiving.{stm_seen}
use Rattle.ti_moves.proofs.stmt_path.statement_at.Given as goal

abbrev pub invariant-loop-n : goal.invariant-loop-n
invariant-loop-n l = record {
  within : l.n ≤ length l.levels;
  same : stm_seen l.x ≡ inside (numbered_stms (map statement_of l.body)) (reverse (take l.n l.levels));
}
