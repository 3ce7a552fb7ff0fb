-- The premises of the theorem on code: what it requires of a program's methods and of `main`.
use Rattle.std.proofs.Common.{◌≡◌, Bool, true, false, slice_get, [], Some, None}
use Rattle.ti_lang.specs.Program.Statements.{NumberedStm, NumberedStms, Nil, Cons, numbered_stms}
use Rattle.ti_lang.specs.Program.Statements as s
use Rattle.ti_lang.specs.Program.Classes.{NumberedMethod, ProgramView}
use Rattle.ti_lang.specs.Program.Scope.{this_of}
use Rattle.ti_lang.specs.Typing.Declared.{result_type}
use Rattle.ti_lang.specs.Typing.Kinds.{is_void}
use Rattle.ti_lang.specs.Meaning.Calls.{parameters_of}
use Rattle.ti_lower_expr.specs.Methods.{names_in_method}
use Rattle.ti_lower.proofs.Working.{StmsFine}

-- a return with a value
abbrev pub IsReturn : NumberedStm → Type 0
IsReturn (s.Return p (Some x)) = Unit {0}
IsReturn x = ⊥

-- the last of the statements from the first one on is such a return
abbrev pub EndOf : NumberedStm → NumberedStms → Type 0
EndOf x Nil = IsReturn x
EndOf x (Cons y ys) = EndOf y ys

-- a method with a result ends with a return of a value
abbrev pub IsEnded : Bool → NumberedStms → Type 0
IsEnded true xs = Unit {0}
IsEnded false Nil = ⊥
IsEnded false (Cons x xs) = EndOf x xs

-- the statements of a method are fine where the slots have the names of its parameters, and a method with a result ends with a return
pub record MethodFine (program : ProgramView) (m : NumberedMethod) : Type 0 where
  pub stms : StmsFine program (this_of m) (result_type m) (numbered_stms m.body) (names_in_method m)
  pub ended : IsEnded (is_void (result_type m)) (numbered_stms m.body)

-- `main` is there, has no `this` and no parameters, and gives nothing back
pub record MainFine (program : ProgramView) : Type 0 where
  pub main : NumberedMethod
  pub is_there : slice_get program.methods program.main ≡ Some main
  pub is_static : this_of main ≡ None
  pub is_bare : parameters_of main.params ≡ []
  pub gives_nothing : is_void (result_type main) ≡ true
