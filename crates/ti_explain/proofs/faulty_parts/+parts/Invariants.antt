use Rattle.std.proofs.Common.{◌≡◌, map, drop}
use Rattle.ti_lang.specs.Program.Expressions.{numbered_exps, numbered_ranges}
use Rattle.ti_lang.specs.Program.Scope.{contents_of}
use Rattle.ti_lang.specs.Program.Views.{program_of, expression_of, bound_of}
use Rattle.ti_explain.specs.FaultyParts.{first_among, first_among_ranges}
use Rattle.ti_explain.proofs.faulty_parts.+parts.Given as goal

abbrev pub invariant-first_among-loop-x : goal.invariant-first_among-loop-x
invariant-first_among-loop-x l =
    first_among (program_of l.program.parts) (contents_of l.scope) l.sought (numbered_exps (map expression_of l.exprs))
    ≡ first_among (program_of l.program.parts) (contents_of l.scope) l.sought (numbered_exps (map expression_of (drop l.x-index l.exprs)))

abbrev pub invariant-first_among_ranges-loop-range : goal.invariant-first_among_ranges-loop-range
invariant-first_among_ranges-loop-range l =
    first_among_ranges (program_of l.program.parts) (contents_of l.scope) l.sought (numbered_ranges (map bound_of l.ranges))
    ≡ first_among_ranges (program_of l.program.parts) (contents_of l.scope) l.sought (numbered_ranges (map bound_of (drop l.range-index l.ranges)))
