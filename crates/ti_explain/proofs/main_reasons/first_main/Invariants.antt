use Rattle.std.proofs.Common.{◌≡◌, map, drop}
use Rattle.ti_syntax.specs.Trees.Views.{class_of}
use Rattle.ti_explain.specs.MainReasons.{first_main}
use Rattle.ti_explain.proofs.main_reasons.first_main.Given as goal

abbrev pub invariant-loop-class : goal.invariant-loop-class
invariant-loop-class l =
    first_main (map class_of l.classes) ≡ first_main (map class_of (drop l.class-index l.classes))
