use Rattle.std.proofs.Common.{◌≡◌, map, drop}
use Rattle.ti_lang.specs.Program.Expressions.{numbered_exps, numbered_ranges}
use Rattle.ti_lang.specs.Program.Scope.{contents_of}
use Rattle.ti_lang.specs.Program.Views.{program_of, expression_of, bound_of}
use Rattle.ti_rules.specs.StmtInContext.{singles_in}
use Rattle.ti_explain.specs.PlainParts.{plain_among, plain_among_ranges}
use Rattle.ti_explain.proofs.plain.+plain.Given as goal

abbrev pub invariant-plain_among-loop-x : goal.invariant-plain_among-loop-x
invariant-plain_among-loop-x l =
    plain_among (program_of l.program.parts) l.scope.this (singles_in (contents_of l.scope)) (numbered_exps (map expression_of l.exprs))
    ≡ plain_among (program_of l.program.parts) l.scope.this (singles_in (contents_of l.scope)) (numbered_exps (map expression_of (drop l.x-index l.exprs)))

abbrev pub invariant-plain_among_ranges-loop-range : goal.invariant-plain_among_ranges-loop-range
invariant-plain_among_ranges-loop-range l =
    plain_among_ranges (program_of l.program.parts) l.scope.this (singles_in (contents_of l.scope)) (numbered_ranges (map bound_of l.ranges))
    ≡ plain_among_ranges (program_of l.program.parts) l.scope.this (singles_in (contents_of l.scope)) (numbered_ranges (map bound_of (drop l.range-index l.ranges)))
