use Rattle.std.proofs.Common.{◌≡◌, ◌≤◌, drop, length}
use Rattle.ti_explain.specs.NearSpelling.{differing}
use Rattle.ti_explain.proofs.near_spelling.differing.Given as goal

abbrev pub invariant-loop-i : goal.invariant-loop-i
invariant-loop-i l = (l.i ≤ length l.other) × (differing l.one l.other ≡ differing (drop l.i l.one) (drop l.i l.other))
