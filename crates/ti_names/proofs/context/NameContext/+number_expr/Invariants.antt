use Rattle.std.proofs.Common.{◌≡◌, map, take}
use Rattle.ti_syntax.specs.Trees.Views.{exp_of, range_of}
use Rattle.ti_lang.specs.Program.Views.{expression_of, bound_of}
use Rattle.ti_names.specs.Mirrors.Numbered.{number_exp, number_range}
use Rattle.ti_names.specs.Seen.{site_of}
use Rattle.ti_names.proofs.context.NameContext.+number_expr.Given as goal

abbrev pub invariant-exps-loop-expr : goal.invariant-exps-loop-expr
invariant-exps-loop-expr l = map expression_of l.ys.items ≡ map (number_exp (site_of l.self)) (map exp_of (take l.expr-index l.exprs))

abbrev pub invariant-ranges-loop-range : goal.invariant-ranges-loop-range
invariant-ranges-loop-range l = map bound_of l.found.items ≡ map (number_range (site_of l.self)) (map range_of (take l.range-index l.ranges))
