use Rattle.std.proofs.Common.{◌≤◌, vec_len}
use Rattle.timeline.proofs.report.read_entries.Given as goal

abbrev pub invariant-loop-line : goal.invariant-loop-line
invariant-loop-line l = vec_len l.entries ≤ 2000
