use Rattle.std.proofs.Common.{◌≡◌, ◌++◌, map, flat_map, drop}
use Rattle.ti_syntax.specs.Trees.Text.{tree_of}
use Rattle.ti_lang.specs.Program.Views.{numbered_param_of}
use Rattle.ti_explain.specs.TypeReasons.{parameters_wanted}
use Rattle.ti_explain.proofs.type_reasons.push_parameters.Given as goal

abbrev pub invariant-loop-param : goal.invariant-loop-param
invariant-loop-param l =
    l.found.items ++ parameters_wanted (tree_of l.tree) (map numbered_param_of (drop l.param-index l.params))
    ≡ l.initial.found.items ++ parameters_wanted (tree_of l.tree) (map numbered_param_of l.params)
