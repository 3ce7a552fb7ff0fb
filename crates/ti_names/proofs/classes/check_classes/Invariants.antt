use Rattle.std.proofs.Common.{◌≡◌, map, drop}
use Rattle.ti_syntax.specs.Trees.Views.{class_of}
use Rattle.ti_lang.specs.Nodes.{classes_nodes}
use Rattle.ti_rules.specs.Mirrors.First.{earlier_of}
use Rattle.ti_names.specs.Found.{first_in}
use Rattle.ti_names.specs.Seen.{text_of_tables}
use Rattle.ti_names.proofs.classes.check_classes.Given as goal

abbrev pub invariant-loop-class : goal.invariant-loop-class
invariant-loop-class l = earlier_of l.found (first_in (classes_nodes (text_of_tables l.tables) l.number (map class_of (drop l.class-index l.classes))))
    ≡ first_in (classes_nodes (text_of_tables l.tables) 0 (map class_of l.classes))
