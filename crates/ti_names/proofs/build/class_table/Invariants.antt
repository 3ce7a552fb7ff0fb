use Rattle.std.proofs.Common.{◌≡◌, [], map, drop}
use Rattle.ti_syntax.specs.Trees.Views.{class_of}
use Rattle.ti_names.specs.Mirrors.Tables.{with_numbered, class_names}
use Rattle.ti_names.proofs.build.class_table.Given as goal

abbrev pub invariant-loop-class : goal.invariant-loop-class
invariant-loop-class l = with_numbered l.found l.number (class_names (map class_of (drop l.class-index l.class-items))) ≡ with_numbered [] 0 (class_names (map class_of l.class-items))
