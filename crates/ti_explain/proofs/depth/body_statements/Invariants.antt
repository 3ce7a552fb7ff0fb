use Rattle.std.proofs.Common.{◌≡◌, ◌≤◌, ◌+◌, ◌++◌, false, length}
use Rattle.ti_explain.specs.DepthReasons.{body_statements}
use Rattle.ti_explain.proofs.depth.body_statements.Given as goal

abbrev pub invariant-loop-rest : goal.invariant-loop-rest
invariant-loop-rest l =
    (body_statements 0 0 false l.list ≡ l.found.items ++ body_statements l.braces l.parens l.fresh l.rest)
    × (l.braces + length l.rest ≤ length l.list) × (l.parens + length l.rest ≤ length l.list)

abbrev pub decreases-loop-rest : goal.decreases-loop-rest
decreases-loop-rest l = length l.rest
