use Rattle.std.proofs.Common.{◌≡◌, ◌++◌, map, drop}
use Rattle.ti_syntax.specs.Trees.Views.{class_of}
use Rattle.ti_explain.specs.DeclaredNames.{classes_at}
use Rattle.ti_explain.specs.Mirrors.Names.{name_at_of}
use Rattle.ti_explain.proofs.declared_names.DeclaredNames.add_classes.Given as goal

abbrev pub invariant-loop-class : goal.invariant-loop-class
invariant-loop-class l =
    map name_at_of l.self.found.items ++ classes_at (map class_of (drop l.class-index l.classes))
    ≡ map name_at_of l.initial.self.found.items ++ classes_at (map class_of l.classes)
