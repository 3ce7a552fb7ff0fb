-- The model of a program's methods.
use Rattle.ti_syntax.specs.Trees.Views.{method_of}
use Rattle.ti_lang.specs.Members.{OwnMethod}
use Rattle.ti_names.specs.declared.method_decls.MethodDecl.{MethodDecl}

abbrev pub method_decl_of : MethodDecl → OwnMethod
method_decl_of own = record { class = own.class; method = method_of own.method.now }
