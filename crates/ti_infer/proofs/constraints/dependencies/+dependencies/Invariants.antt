use Rattle.std.proofs.Common.{◌≡◌, ◌++◌, map, drop}
use Rattle.ti_lang.specs.Program.Expressions.{numbered_exps, numbered_ranges}
use Rattle.ti_lang.specs.Program.Views.{expression_of, bound_of}
use Rattle.ti_infer.specs.Mirrors.Sites.{all_dependencies_at, ranges_dependencies_at}
use Rattle.ti_infer.proofs.constraints.dependencies.+dependencies.Given as goal

abbrev pub invariant-all-loop-x : goal.invariant-all-loop-x
invariant-all-loop-x l =
    l.out.items ++ all_dependencies_at l.site l.inside (numbered_exps (map expression_of (drop l.x-index l.exprs))) ≡ l.fn.out.items ++ all_dependencies_at l.site l.inside (numbered_exps (map expression_of l.exprs))

abbrev pub invariant-all_ranges-loop-r : goal.invariant-all_ranges-loop-r
invariant-all_ranges-loop-r l =
    l.out.items ++ ranges_dependencies_at l.site l.inside (numbered_ranges (map bound_of (drop l.r-index l.found))) ≡ l.fn.out.items ++ ranges_dependencies_at l.site l.inside (numbered_ranges (map bound_of l.found))
