use Rattle.std.proofs.Common.{◌≡◌, map, drop}
use Rattle.ti_lang.specs.Program.Expressions.{numbered_exps}
use Rattle.ti_lang.specs.Program.Views.{expression_of}
use Rattle.ti_single.specs.Contexts.{program_at, around_of}
use Rattle.ti_explain.specs.SingleReasons.{plain_argument}
use Rattle.ti_explain.proofs.statement.plain_argument.Given as goal

abbrev pub invariant-loop-x : goal.invariant-loop-x
invariant-loop-x l =
    plain_argument (program_at l.site) (around_of l.site) l.place (numbered_exps (map expression_of l.args))
    ≡ plain_argument (program_at l.site) (around_of l.site) l.place (numbered_exps (map expression_of (drop l.x-index l.args)))
