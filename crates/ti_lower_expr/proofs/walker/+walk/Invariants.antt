use Rattle.std.proofs.Common.{◌≡◌, map, drop}
use Rattle.ti_lang.specs.Program.Expressions.{numbered_exps, numbered_ranges}
use Rattle.ti_lang.specs.Program.Views.{expression_of, bound_of}
use Rattle.ti_lower_expr.specs.Contents.{BeginsWith}
use Rattle.ti_lower_expr.specs.Mirrors.Sites.{all_in, ranges_in}
use Rattle.ti_lower_expr.proofs.walker.+walk.Given as goal

abbrev pub invariant-walk_all-loop-x : goal.invariant-walk_all-loop-x
invariant-walk_all-loop-x l = record {
  code : all_in l.context (numbered_exps (map expression_of (drop l.x-index l.exprs))) l.out.items ≡ all_in l.context (numbered_exps (map expression_of l.exprs)) l.initial.out.items;
  begins : BeginsWith l.out.items l.initial.out.items;
}

abbrev pub invariant-walk_ranges-loop-r : goal.invariant-walk_ranges-loop-r
invariant-walk_ranges-loop-r l = record {
  code : ranges_in l.context (numbered_ranges (map bound_of (drop l.r-index l.ranges))) l.out.items ≡ ranges_in l.context (numbered_ranges (map bound_of l.ranges)) l.initial.out.items;
  begins : BeginsWith l.out.items l.initial.out.items;
}
