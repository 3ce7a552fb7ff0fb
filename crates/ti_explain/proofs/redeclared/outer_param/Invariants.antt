use Rattle.std.proofs.Common.{◌≡◌, map, drop}
use Rattle.ti_syntax.specs.Trees.Statements.{stms}
use Rattle.ti_syntax.specs.Trees.Views.{stm_of, param_of}
use Rattle.ti_explain.specs.DeclaredNames.{variables_among}
use Rattle.ti_explain.specs.Redeclared.{outer_param}
use Rattle.ti_explain.proofs.redeclared.outer_param.Given as goal

abbrev pub invariant-loop-i : goal.invariant-loop-i
invariant-loop-i l =
    outer_param l.place l.any l.name (map param_of l.params) (variables_among (stms (map stm_of l.body)))
    ≡ outer_param l.place l.any l.name (map param_of (drop l.i l.params)) (variables_among (stms (map stm_of l.body)))
