use Rattle.std.proofs.Common.{◌≡◌, map, drop}
use Rattle.ti_lang.specs.Program.Expressions.{numbered_exps, numbered_ranges}
use Rattle.ti_lang.specs.Program.Scope.{contents_of}
use Rattle.ti_lang.specs.Program.Views.{program_of, expression_of, bound_of}
use Rattle.ti_lang.specs.Typing.Singleness.{are_single, are_single_ranges}
use Rattle.ti_rules.specs.StmtInContext.{singles_in}
use Rattle.ti_single.proofs.singleness.+single.Given as goal

abbrev pub invariant-are_single-loop-x : goal.invariant-are_single-loop-x
invariant-are_single-loop-x l =
    are_single (program_of l.program.parts) l.scope.this (singles_in (contents_of l.scope)) (numbered_exps (map expression_of l.exprs))
    ≡ are_single (program_of l.program.parts) l.scope.this (singles_in (contents_of l.scope)) (numbered_exps (map expression_of (drop l.x-index l.exprs)))

abbrev pub invariant-are_single_ranges-loop-range : goal.invariant-are_single_ranges-loop-range
invariant-are_single_ranges-loop-range l =
    are_single_ranges (program_of l.program.parts) l.scope.this (singles_in (contents_of l.scope)) (numbered_ranges (map bound_of l.ranges))
    ≡ are_single_ranges (program_of l.program.parts) l.scope.this (singles_in (contents_of l.scope)) (numbered_ranges (map bound_of (drop l.range-index l.ranges)))
