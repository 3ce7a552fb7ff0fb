use Rattle.std.proofs.Common.{◌≡◌, ◌++◌, map, drop}
use Rattle.ti_syntax.specs.Trees.Views.{class_of}
use Rattle.ti_explain.specs.NameReasons.{fields_named_in}
use Rattle.ti_explain.proofs.name_reasons.push_all_fields.Given as goal

abbrev pub invariant-loop-class : goal.invariant-loop-class
invariant-loop-class l =
    l.found.items ++ fields_named_in l.name (map class_of (drop l.class-index l.classes))
    ≡ l.initial.found.items ++ fields_named_in l.name (map class_of l.classes)
