-- The initial slots of a method's frame, and the position of the receiver at a call.
use Rattle.std.specs.Prelude.{ℕ, if◌then◌else◌, Bool, true, false, List, [], ◌∷◌, length, map, Option, Some, None}
use Rattle.ti_lang.specs.Program.Types.{VariableUse}
use Rattle.ti_lang.specs.Program.Classes.{NumberedMethod, ProgramView}
use Rattle.ti_lang.specs.Program.Scope.{this_of}
use Rattle.ti_lang.specs.Meaning.Calls.{parameters_of}
use Rattle.ti_lower_expr.specs.Slots.{Name, This, Of}

-- How many parameters a method has besides `this`.
abbrev pub param_count : NumberedMethod → ℕ
param_count m = length (parameters_of m.params)

-- The method has a `this`.
abbrev pub is_instance : Option ℕ → Bool
is_instance None = false
is_instance (Some class) = true

-- How many operands are above the receiver at a call of a method, if it has a `this`.
abbrev pub receiver_in : NumberedMethod → Option ℕ
receiver_in m = if is_instance (this_of m) then Some (param_count m) else None

abbrev pub receivers_of : ProgramView → List (Option ℕ)
receivers_of program = map receiver_in program.methods

-- The slots of a frame when it begins: `this`, if there is one, and above it the parameters.
abbrev pub this_names : Option ℕ → List Name
this_names None = []
this_names (Some class) = This ∷ []

abbrev pub push_param_names : List VariableUse → List Name → List Name
push_param_names [] ns = ns
push_param_names (p ∷ ps) ns = push_param_names ps (Of p ∷ ns)

abbrev pub names_in_method : NumberedMethod → List Name
names_in_method m = push_param_names (parameters_of m.params) (this_names (this_of m))
