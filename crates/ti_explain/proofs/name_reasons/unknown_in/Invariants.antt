use Rattle.std.proofs.Common.{◌≡◌, map, drop}
use Rattle.ti_syntax.specs.Trees.Views.{class_of}
use Rattle.ti_syntax.specs.Trees.Text.{tree_of}
use Rattle.ti_explain.specs.NameReasons.{unknown_in}
use Rattle.ti_explain.proofs.name_reasons.unknown_in.Given as goal

abbrev pub invariant-loop-class : goal.invariant-loop-class
invariant-loop-class l =
    unknown_in (tree_of l.tree) l.place (map class_of l.classes)
    ≡ unknown_in (tree_of l.tree) l.place (map class_of (drop l.class-index l.classes))
