-- The code of calls of declared methods.
use Rattle.std.specs.Prelude.{ℕ, ◌==◌, ◌&&◌, List, [], ◌∷◌, ◌++◌, Option, Some, None}
use Rattle.std.specs.List.{position_or_len}
use Rattle.ti_lang.specs.Program.Types.{ValueType, VariableUse}
use Rattle.ti_lang.specs.Program.Types as t
use Rattle.ti_lang.specs.Program.Expressions.{NumberedExp, NumberedExps, place_of_numbered}
use Rattle.ti_lang.specs.Program.Expressions as e
use Rattle.ti_lang.specs.Program.Classes.{NumberedMethod, ProgramView}
use Rattle.ti_lang.specs.Typing.TextTypes.{syntactic_type}
use Rattle.ti_lang.specs.Meaning.Scoping.{declared_type}
use Rattle.ti_lang.specs.Meaning.Calls.{Call, parameters_of}
use Rattle.ti_code.specs.declared.instr.Instr.{Instr}
use Rattle.ti_code.specs.declared.instr.Instr.TheVariants as i
use Rattle.ti_code.specs.Leading.{pc_after}
use Rattle.ti_lower_expr.specs.Slots.{Name}
use Rattle.ti_lower_expr.specs.Knowing.{known_of}
use Rattle.ti_lower_expr.specs.Coding.{code_of, conversion}

-- ---- calls

-- The number of the instance method of this name for an object of the type.
abbrev pub method_number : ProgramView → ValueType → ℕ → ℕ
method_number program (t.Class class is_local) name =
    position_or_len (λ (m : NumberedMethod). (m.class == class) && (m.name == name)) program.methods
method_number program type name = 0

-- The number of the method that an expression calls, if it is a call.
abbrev pub number_called : ProgramView → Option ℕ → NumberedExp → ℕ
number_called program this (e.Call at method args) = method
number_called program this (e.OwnCall at method args) = method
number_called program this (e.Member at x name args) = method_number program (syntactic_type program this x) name
number_called program this other = 0

module _ (program : ProgramView) (this : Option ℕ) (names : List Name) where
  -- An argument, converted to its parameter's type.
  abbrev pub arg_code : VariableUse → NumberedExp → ℕ → List Instr
  arg_code p x at =
      code_of program this names x at ++ conversion (place_of_numbered x) (declared_type p.declared) (known_of program this x)

  abbrev pub args_code : List VariableUse → NumberedExps → ℕ → List Instr
  args_code (p ∷ ps) (e.MoreExp x xs) at = arg_code p x at ++ args_code ps xs (pc_after at (arg_code p x at))
  args_code ps xs at = []

  abbrev pub object_code : Option NumberedExp → ℕ → List Instr
  object_code None at = []
  object_code (Some x) at = code_of program this names x at

  -- The object, the arguments, and the call of method k.
  abbrev pub call_code : ℕ → Call → ℕ → List Instr
  call_code k c at =
      object_code c.object at ++ (args_code (parameters_of c.method.params) c.args (pc_after at (object_code c.object at))
      ++ i.Call k c.place ∷ [])
