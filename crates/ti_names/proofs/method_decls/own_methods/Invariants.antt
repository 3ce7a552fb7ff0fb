use Rattle.std.proofs.Common.{◌≡◌, ◌++◌, map, drop}
use Rattle.ti_syntax.specs.Trees.Views.{class_of}
use Rattle.ti_names.specs.MethodDecl.{method_decl_of}
use Rattle.ti_lang.specs.Members.{methods_from}
use Rattle.ti_names.proofs.method_decls.own_methods.Given as goal

abbrev pub invariant-loop-class : goal.invariant-loop-class
invariant-loop-class l = map method_decl_of l.found.items ++ methods_from l.number (map class_of (drop l.class-index l.class-items)) ≡ methods_from 0 (map class_of l.class-items)
