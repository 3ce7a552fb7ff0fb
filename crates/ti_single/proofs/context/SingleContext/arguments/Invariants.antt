use Rattle.std.proofs.Common.{◌≡◌, map}
use Rattle.ti_lang.specs.Program.Expressions.{numbered_exps}
use Rattle.ti_lang.specs.Program.Views.{expression_of, numbered_param_of}
use Rattle.ti_rules.specs.Mirrors.First.{earlier_of, earliest}
use Rattle.ti_rules.specs.SingleRules.{argument_refusals}
use Rattle.ti_single.specs.Contexts.{program_at, around_of}
use Rattle.ti_single.proofs.Arguments.{arguments_from}
use Rattle.ti_single.proofs.context.SingleContext.arguments.Given as goal

abbrev pub invariant-loop-i : goal.invariant-loop-i
invariant-loop-i l =
    earliest (argument_refusals (program_at l.self) (around_of l.self) (map numbered_param_of l.params) (numbered_exps (map expression_of l.args)))
    ≡ earlier_of l.found (earliest (arguments_from (program_at l.self) (around_of l.self) l.params l.args l.i))
