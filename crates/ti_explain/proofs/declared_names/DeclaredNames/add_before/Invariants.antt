use Rattle.std.proofs.Common.{◌≡◌, ◌++◌, map, drop}
use Rattle.ti_explain.specs.DeclaredNames.{declared_before}
use Rattle.ti_explain.specs.Mirrors.Names.{name_at_of}
use Rattle.ti_explain.proofs.declared_names.DeclaredNames.add_before.Given as goal

abbrev pub invariant-loop-v : goal.invariant-loop-v
invariant-loop-v l =
    map name_at_of l.self.found.items ++ declared_before l.place (map name_at_of (drop l.v-index l.variables))
    ≡ map name_at_of l.initial.self.found.items ++ declared_before l.place (map name_at_of l.variables)
