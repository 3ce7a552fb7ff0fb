use Rattle.std.proofs.Common.{◌≡◌, map, drop}
use Rattle.ti_syntax.specs.Trees.Views.{param_of}
use Rattle.ti_explain.specs.NameUses.{use_among_params}
use Rattle.ti_explain.proofs.name_uses.use_among_params.Given as goal

abbrev pub invariant-loop-param : goal.invariant-loop-param
invariant-loop-param l = use_among_params l.place (map param_of l.params) ≡ use_among_params l.place (map param_of (drop l.param-index l.params))
