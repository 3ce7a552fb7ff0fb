use Rattle.std.proofs.Common.{map, drop}
use Rattle.ti_lang.specs.Program.Expressions.{numbered_exps, numbered_ranges}
use Rattle.ti_lang.specs.Program.Views.{expression_of, bound_of}
use Rattle.ti_rules.specs.Mirrors.Literals.{InExps, InRanges}
use Rattle.ti_rules.proofs.reading.+read.Given as goal

abbrev pub invariant-read_all-loop-x : goal.invariant-read_all-loop-x
invariant-read_all-loop-x l = InExps (numbered_exps (map expression_of (drop l.x-index l.exprs))) → InExps (numbered_exps (map expression_of l.exprs))

abbrev pub invariant-read_ranges-loop-range : goal.invariant-read_ranges-loop-range
invariant-read_ranges-loop-range l = InRanges (numbered_ranges (map bound_of (drop l.range-index l.ranges))) → InRanges (numbered_ranges (map bound_of l.ranges))
