use Rattle.std.proofs.Common.{◌≡◌, true, take}
use Rattle.ti_trace_check.specs.Lines.{has_no_end}
use Rattle.ti_trace_check.proofs.line_reader.line_length.Given as goal

abbrev pub invariant-loop-at : goal.invariant-loop-at
invariant-loop-at l = has_no_end (take l.at l.bytes) ≡ true
