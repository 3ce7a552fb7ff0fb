use Rattle.std.proofs.Common.{◌≡◌, map, drop}
use Rattle.ti_lang.specs.Program.Views.{numbered_class_of}
use Rattle.ti_explain.specs.MisplacedWords.{defect_in_classes}
use Rattle.ti_explain.proofs.misplaced_words.defect_in_classes.Given as goal

abbrev pub invariant-loop-class : goal.invariant-loop-class
invariant-loop-class l = defect_in_classes l.place (map numbered_class_of l.classes) ≡ defect_in_classes l.place (map numbered_class_of (drop l.class-index l.classes))
