use Rattle.std.proofs.Common.{◌≡◌, ◌-◌, map, drop, length}
use Rattle.ti_lang.specs.Program.Expressions.{numbered_exps}
use Rattle.ti_lang.specs.Program.Views.{expression_of, numbered_param_of}
use Rattle.ti_lang.specs.Meaning.Calls.{parameters_from}
use Rattle.ti_lower.specs.Mirrors.Positions.{where_of}
use Rattle.ti_lower.specs.Mirrors.Values.{args_on}
use Rattle.ti_lower.proofs.calls.args_for.Given as goal

abbrev pub invariant-loop-i : goal.invariant-loop-i
invariant-loop-i l =
    args_on (where_of l.context) (parameters_from l.i (map numbered_param_of (drop l.i l.params))) (numbered_exps (map expression_of (drop l.i l.exprs))) l.out.items
    ≡ args_on (where_of l.context) (parameters_from 0 (map numbered_param_of l.params)) (numbered_exps (map expression_of l.exprs)) l.initial.out.items

abbrev pub decreases-loop-i : goal.decreases-loop-i
decreases-loop-i l = length l.params - l.i
