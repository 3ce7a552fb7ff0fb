use Rattle.std.proofs.Common.{◌≡◌, map, drop}
use Rattle.ti_syntax.specs.Trees.Views.{class_of}
use Rattle.ti_explain.specs.Redeclared.{first_in_classes}
use Rattle.ti_explain.proofs.redeclared.first_in_classes.Given as goal

abbrev pub invariant-loop-class : goal.invariant-loop-class
invariant-loop-class l =
    first_in_classes l.place (map class_of l.classes) ≡ first_in_classes l.place (map class_of (drop l.class-index l.classes))
