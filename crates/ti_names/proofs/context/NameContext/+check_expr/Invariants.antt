use Rattle.std.proofs.Common.{◌≡◌, map, drop}
use Rattle.ti_syntax.specs.Trees.Views.{exp_of, range_of}
use Rattle.ti_syntax.specs.Trees.Expressions.{exps, ranges_tree}
use Rattle.ti_lang.specs.Nodes.{exps_nodes, ranges_nodes}
use Rattle.ti_rules.specs.Mirrors.First.{earlier_of}
use Rattle.ti_names.specs.Found.{first_in}
use Rattle.ti_names.specs.Seen.{site_of}
use Rattle.ti_names.proofs.context.NameContext.+check_expr.Given as goal

abbrev pub invariant-check_exps-loop-expr : goal.invariant-check_exps-loop-expr
invariant-check_exps-loop-expr l = earlier_of l.found (first_in (exps_nodes (site_of l.self) (exps (map exp_of (drop l.expr-index l.exprs))))) ≡ first_in (exps_nodes (site_of l.self) (exps (map exp_of l.exprs)))

abbrev pub invariant-check_ranges-loop-range : goal.invariant-check_ranges-loop-range
invariant-check_ranges-loop-range l =
    earlier_of l.found (first_in (ranges_nodes (site_of l.self) (ranges_tree (map range_of (drop l.range-index l.ranges)))))
    ≡ first_in (ranges_nodes (site_of l.self) (ranges_tree (map range_of l.ranges)))
