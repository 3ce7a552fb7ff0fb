use Rattle.std.proofs.Common.{◌≡◌, map, drop, ◌++◌}
use Rattle.ti_lang.specs.Program.Scope.{in_scope_of, parameters_from}
use Rattle.ti_lang.specs.Program.Views.{numbered_param_of}
use Rattle.ti_lang.proofs.program.scope.Scope.typed_params.Given as goal

abbrev pub invariant-loop-param : goal.invariant-loop-param
invariant-loop-param l = (l.number ≡ l.param-index) × (map in_scope_of l.found.items
    ++ parameters_from l.number (map numbered_param_of (drop l.param-index l.params))
    ≡ parameters_from 0 (map numbered_param_of l.params))
