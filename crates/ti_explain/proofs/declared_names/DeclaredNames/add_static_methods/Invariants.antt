use Rattle.std.proofs.Common.{◌≡◌, ◌++◌, map, drop}
use Rattle.ti_syntax.specs.Trees.Views.{class_of}
use Rattle.ti_explain.specs.DeclaredNames.{static_methods_at}
use Rattle.ti_explain.specs.Mirrors.Names.{name_at_of}
use Rattle.ti_explain.proofs.declared_names.DeclaredNames.add_static_methods.Given as goal

abbrev pub invariant-loop-class : goal.invariant-loop-class
invariant-loop-class l =
    map name_at_of l.self.found.items ++ static_methods_at l.name (map class_of (drop l.class-index l.classes))
    ≡ map name_at_of l.initial.self.found.items ++ static_methods_at l.name (map class_of l.classes)
