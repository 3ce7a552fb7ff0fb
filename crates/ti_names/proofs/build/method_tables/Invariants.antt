use Rattle.std.proofs.Common.{◌≡◌, ◌++◌, map, drop}
use Rattle.ti_syntax.specs.Trees.Views.{class_of}
use Rattle.ti_names.specs.Mirrors.Tables.{method_tables}
use Rattle.ti_names.proofs.build.method_tables.Given as goal

abbrev pub invariant-loop-class : goal.invariant-loop-class
invariant-loop-class l = l.found.items ++ method_tables l.number (map class_of (drop l.class-index l.class-items)) ≡ method_tables 0 (map class_of l.class-items)
