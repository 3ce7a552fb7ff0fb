-- The method or built-in member that a call refers to.
use Rattle.std.specs.Prelude.{ℕ, if◌then◌else◌, Option, None, slice_get}
use Rattle.ti_lang.specs.Program.Types.{ValueType}
use Rattle.ti_lang.specs.Program.Types as t
use Rattle.ti_lang.specs.Program.Expressions.{NumberedExp}
use Rattle.ti_lang.specs.Program.Expressions as e
use Rattle.ti_lang.specs.Program.Classes.{NumberedMethod, ProgramView}
use Rattle.ti_lang.specs.Typing.Kinds.{is_object}
use Rattle.ti_lang.specs.Typing.BuiltIn.{BuiltIn, built_in}
use Rattle.ti_lang.specs.Typing.Declared.{instance_method}
use Rattle.ti_lang.specs.Typing.TextTypes.{syntactic_type}

-- the instance method of this name on an object of this type
abbrev pub method_behind : ProgramView → ValueType → ℕ → Option NumberedMethod
method_behind program (t.Class class is_local) name = instance_method program class name
method_behind program type name = None

-- the declared method that an expression calls: `x.f(..)` calls one only if `x` is an object; None if the expression calls none
abbrev pub called_method : ProgramView → Option ℕ → NumberedExp → Option NumberedMethod
called_method program this (e.Call at method args) = slice_get program.methods method
called_method program this (e.OwnCall at method args) = slice_get program.methods method
called_method program this (e.Member at x name args) = method_behind program (syntactic_type program this x) name
called_method program this other = None

-- the built-in member that a name denotes on an expression; None on an object
abbrev pub member_called : ProgramView → Option ℕ → NumberedExp → ℕ → Option BuiltIn
member_called program this x name = if is_object (syntactic_type program this x) then None else built_in program name
