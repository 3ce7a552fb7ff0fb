use Rattle.std.proofs.Common.{◌≡◌, ◌++◌}
use Rattle.ti_lower_expr.specs.Coding.{pops}
use Rattle.ti_lower_expr.specs.Contents.{BeginsWith}
use Rattle.ti_lower_expr.proofs.emission.add_pops.Given as goal

abbrev pub invariant-loop-left : goal.invariant-loop-left
invariant-loop-left l = record {
  code : l.out.items ++ pops l.left ≡ l.initial.out.items ++ pops l.count;
  begins : BeginsWith l.out.items l.initial.out.items;
}

abbrev pub decreases-loop-left : goal.decreases-loop-left
decreases-loop-left l = l.left
