use Rattle.std.proofs.Common.{◌≡◌, map, take}
use Rattle.ti_syntax.specs.Trees.Views.{class_of}
use Rattle.ti_lang.specs.Program.Views.{numbered_class_of}
use Rattle.ti_names.specs.Mirrors.Numbered.{number_classes}
use Rattle.ti_names.specs.Seen.{text_of_tables}
use Rattle.ti_names.proofs.context.NameContext.classes.Given as goal

abbrev pub invariant-loop-class : goal.invariant-loop-class
invariant-loop-class l = map numbered_class_of l.done.items ≡ number_classes (text_of_tables l.self.tables.now) (map class_of (take l.class-index l.classes))
