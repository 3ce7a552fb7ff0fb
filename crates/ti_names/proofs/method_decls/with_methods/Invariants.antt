use Rattle.std.proofs.Common.{◌≡◌, ◌++◌, map, drop}
use Rattle.ti_syntax.specs.Trees.Views.{member_of}
use Rattle.ti_names.specs.MethodDecl.{method_decl_of}
use Rattle.ti_lang.specs.Members.{methods_in}
use Rattle.ti_names.proofs.method_decls.with_methods.Given as goal

abbrev pub invariant-loop-member : goal.invariant-loop-member
invariant-loop-member l = map method_decl_of l.found.items ++ methods_in l.class (map member_of (drop l.member-index l.members))
    ≡ map method_decl_of l.initial.found.items ++ methods_in l.class (map member_of l.members)
