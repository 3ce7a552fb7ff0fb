use Rattle.std.proofs.Common.{◌≡◌, ◌++◌, map, drop}
use Rattle.ti_syntax.specs.Trees.Views.{class_of}
use Rattle.ti_explain.specs.MainReasons.{parameters_in}
use Rattle.ti_explain.proofs.main_reasons.parameters_in.Given as goal

abbrev pub invariant-loop-class : goal.invariant-loop-class
invariant-loop-class l =
    l.found.items ++ parameters_in l.place (map class_of (drop l.class-index l.classes)) ≡ parameters_in l.place (map class_of l.classes)
