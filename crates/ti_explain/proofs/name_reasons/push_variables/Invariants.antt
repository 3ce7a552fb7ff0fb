use Rattle.std.proofs.Common.{◌≡◌, ◌++◌, map, drop}
use Rattle.ti_explain.specs.NameReasons.{scope_reasons}
use Rattle.ti_explain.specs.Mirrors.Names.{name_at_of}
use Rattle.ti_explain.proofs.name_reasons.push_variables.Given as goal

abbrev pub invariant-loop-v : goal.invariant-loop-v
invariant-loop-v l =
    l.found.items ++ scope_reasons l.place l.name (map name_at_of (drop l.v-index l.variables))
    ≡ l.initial.found.items ++ scope_reasons l.place l.name (map name_at_of l.variables)
