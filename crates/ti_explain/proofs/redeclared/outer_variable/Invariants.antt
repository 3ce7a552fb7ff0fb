use Rattle.std.proofs.Common.{◌≡◌, map, drop}
use Rattle.ti_syntax.specs.Trees.Views.{method_of}
use Rattle.ti_explain.specs.Redeclared.{outer_variable}
use Rattle.ti_explain.specs.Mirrors.Names.{name_at_of}
use Rattle.ti_explain.proofs.redeclared.outer_variable.Given as goal

abbrev pub invariant-loop-d : goal.invariant-loop-d
invariant-loop-d l =
    outer_variable l.place l.any (method_of l.method) (map name_at_of l.variables)
    ≡ outer_variable l.place l.any (method_of l.method) (map name_at_of (drop l.d-index l.variables))
