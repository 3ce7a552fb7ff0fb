use Rattle.std.proofs.Common.{[], drop, option_map}
use Rattle.ti_lang.specs.Program.Scope.{contents_of}
use Rattle.ti_lang.specs.Program.Views.{program_of, numbered_method_of}
use Rattle.ti_types.specs.Mirrors.Arguments.{parameter_types}
use Rattle.ti_types.specs.Mirrors.Walk.{AreOperandResults, operands_in}
use Rattle.ti_types.proofs.Walked.{rest_of, ranges_from}
use Rattle.ti_types.proofs.exprs.TypeChecker.+exp.Given as goal

abbrev pub invariant-operands-loop-i : goal.invariant-operands-loop-i
invariant-operands-loop-i l =
    AreOperandResults (program_of l.self.program.now) (contents_of l.scope) (rest_of l.exprs l.i)
    (drop l.i (parameter_types (option_map (λ m. numbered_method_of m.now) l.method))) l.found.0
    l.found.1.0 l.found.1.1.0

abbrev pub invariant-ranges-loop-i : goal.invariant-ranges-loop-i
invariant-ranges-loop-i l =
    AreOperandResults (program_of l.self.program.now) (contents_of l.scope)
    (operands_in (ranges_from l.ranges l.i)) []
    l.found.0 l.found.1.0 l.found.1.1.0
