use Rattle.std.proofs.Common.{◌≡◌}
use Rattle.ti_rows_of_code.proofs.made_by_hand.tell_course.Given as goal

-- the code is that of the start
abbrev pub invariant-loop : goal.invariant-loop
invariant-loop l = l.code ≡ l.process.code
