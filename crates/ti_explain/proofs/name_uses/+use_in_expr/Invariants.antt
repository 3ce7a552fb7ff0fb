use Rattle.std.proofs.Common.{◌≡◌, map, drop}
use Rattle.ti_syntax.specs.Trees.Expressions.{exps, ranges_tree}
use Rattle.ti_syntax.specs.Trees.Views.{exp_of, range_of}
use Rattle.ti_explain.specs.NameUses.{use_among, use_among_ranges}
use Rattle.ti_explain.proofs.name_uses.+use_in_expr.Given as goal

abbrev pub invariant-use_among-loop-x : goal.invariant-use_among-loop-x
invariant-use_among-loop-x l = use_among l.place (exps (map exp_of l.exprs)) ≡ use_among l.place (exps (map exp_of (drop l.x-index l.exprs)))

abbrev pub invariant-use_among_ranges-loop-range : goal.invariant-use_among_ranges-loop-range
invariant-use_among_ranges-loop-range l =
    use_among_ranges l.place (ranges_tree (map range_of l.ranges)) ≡ use_among_ranges l.place (ranges_tree (map range_of (drop l.range-index l.ranges)))
