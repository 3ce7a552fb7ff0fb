use Rattle.std.proofs.Common.{◌≡◌, map, take}
use Rattle.ti_names.specs.MethodDecl.{method_decl_of}
use Rattle.ti_names.specs.Mirrors.Tables.{static_table}
use Rattle.ti_names.proofs.method_decls.statics.Given as goal

abbrev pub invariant-loop-own : goal.invariant-loop-own
invariant-loop-own l = l.found.items ≡ static_table (map method_decl_of (take l.own-index l.methods))
