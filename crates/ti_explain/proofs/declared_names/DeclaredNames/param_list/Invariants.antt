use Rattle.std.proofs.Common.{◌≡◌, ◌++◌, map, drop}
use Rattle.ti_syntax.specs.Trees.Views.{param_of}
use Rattle.ti_explain.specs.DeclaredNames.{params_among}
use Rattle.ti_explain.specs.Mirrors.Names.{name_at_of}
use Rattle.ti_explain.proofs.declared_names.DeclaredNames.param_list.Given as goal

abbrev pub invariant-loop-param : goal.invariant-loop-param
invariant-loop-param l =
    map name_at_of l.self.found.items ++ params_among (map param_of (drop l.param-index l.params))
    ≡ map name_at_of l.initial.self.found.items ++ params_among (map param_of l.params)
