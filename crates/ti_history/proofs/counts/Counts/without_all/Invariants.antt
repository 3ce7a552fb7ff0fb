use Rattle.std.proofs.Common.{◌≡◌, drop}
use Rattle.ti_history.specs.Mirrors.Reading.{without_entries}
use Rattle.ti_history.proofs.counts.Counts.without_all.Given as goal

-- without the heads that are left, the counts are those that the function gives
abbrev pub invariant-loop-head : goal.invariant-loop-head
invariant-loop-head l = without_entries l.left (drop l.head-index l.heads) ≡ without_entries l.initial.left l.heads
