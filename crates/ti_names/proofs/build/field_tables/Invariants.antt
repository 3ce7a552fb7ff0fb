use Rattle.std.proofs.Common.{◌≡◌, ◌++◌, map, drop}
use Rattle.ti_syntax.specs.Trees.Views.{class_of}
use Rattle.ti_names.specs.Mirrors.Tables.{field_tables}
use Rattle.ti_names.proofs.build.field_tables.Given as goal

abbrev pub invariant-loop-class : goal.invariant-loop-class
invariant-loop-class l = l.found.items ++ field_tables (map class_of (drop l.class-index l.class-items)) ≡ field_tables (map class_of l.class-items)
