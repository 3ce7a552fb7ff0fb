use Rattle.std.proofs.Common.{◌≡◌, map, drop}
use Rattle.ti_lang.specs.Program.Views.{numbered_param_of}
use Rattle.ti_lang.specs.Meaning.Calls.{parameters_from}
use Rattle.ti_lower_expr.specs.Contents.{names_in}
use Rattle.ti_lower_expr.specs.Methods.{push_param_names}
use Rattle.ti_lower.proofs.methods.push_params.Given as goal

abbrev pub invariant-loop-i : goal.invariant-loop-i
invariant-loop-i l =
    push_param_names (parameters_from l.i (map numbered_param_of (drop l.i l.params))) (names_in l.slots)
    ≡ push_param_names (parameters_from 0 (map numbered_param_of l.params)) (names_in l.initial.slots)
