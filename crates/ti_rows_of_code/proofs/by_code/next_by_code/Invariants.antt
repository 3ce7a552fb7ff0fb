use Rattle.std.proofs.Common.{◌≡◌}
use Rattle.ti_rows_of_code.proofs.by_code.next_by_code.Given as goal

-- the code is that of the start
abbrev pub invariant-loop-entry : goal.invariant-loop-entry
invariant-loop-entry l = l.code ≡ l.process.code
