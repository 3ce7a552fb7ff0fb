-- The environment in which an expression is evaluated, and the meaning of names in it.
use Rattle.std.specs.Prelude.{ℕ, Bool, false, true, not, ◌&&◌, ◌==◌, if◌then◌else◌, List, [], ◌∷◌, filter, unwrap_or, option_and_then, Option}
use Rattle.std.specs.List.{list_any}
use Rattle.ti_base.specs.declared.value.Id.{Id}
use Rattle.ti_lang.specs.Program.Types.{ValueType, Declaration, Typed, Foreach, VariableUse}
use Rattle.ti_lang.specs.Program.Types as t
use Rattle.ti_lang.specs.Program.Expressions.{NumberedExp}
use Rattle.ti_lang.specs.Program.Classes.{NumberedMethod, ProgramView}
use Rattle.ti_lang.specs.Program.Scope.{this_of}
use Rattle.ti_lang.specs.Typing.Kinds.{same_truth, same_type, class_of_type}
use Rattle.ti_lang.specs.Typing.Declared.{field_numbered}
use Rattle.ti_lang.specs.Typing.TextTypes.{type_at, syntactic_type}
use Rattle.ti_lang.specs.Meaning.Held.{Held, no_value, zero_of}
use Rattle.ti_lang.specs.Meaning.Processes.{Variable, ContItem, Frame, Process}
use Rattle.ti_lang.specs.Meaning.Turns.{Turn, turns_at, point_at, dims_at}

-- what an expression depends on in its process and its frame
pub record Env : Type 0 where
  -- the number of the process, and how many processes there are
  pub number : ℕ
  pub procs : ℕ
  pub program : ProgramView
  pub method : NumberedMethod
  pub this : Option Id
  pub variables : List Variable
  -- the enclosing foreach loops: the points of their iterations, and the dimensions of their variables
  pub turns : List Turn
  pub dims : ℕ → ℕ

-- the environment of an item of work, after which `left` is the rest of the continuation
abbrev pub env_of : Process → Frame → List ContItem → Env
env_of p f left = record {
  number = p.number;
  procs = p.setting.procs;
  program = p.setting.program;
  method = f.method;
  this = f.this;
  variables = f.variables;
  turns = turns_at left;
  dims = dims_at p.setting.program (this_of f.method) left;
}

-- ---- variables

-- the two declarations are equal
abbrev pub same_declaration : Declaration → Declaration → Bool
same_declaration (Typed s x) (Typed r y) = same_truth s r && same_type x y
same_declaration Foreach Foreach = true
same_declaration d e = false

-- both denote one variable: equal numbers and equal declarations
abbrev pub same_variable : VariableUse → VariableUse → Bool
same_variable x y = (x.number == y.number) && same_declaration x.declared y.declared

-- the declared type of a variable; `Void` for that of a foreach, whose declaration has none
abbrev pub declared_type : Declaration → ValueType
declared_type (Typed is_single type) = type
declared_type Foreach = t.Void

-- the zero of the declared type
abbrev pub zero_declared : Declaration → Held
zero_declared (Typed is_single type) = zero_of type
zero_declared Foreach = no_value

-- the value of a variable; a program uses no variable out of scope, and one would have the zero of its type
abbrev pub find_variable : VariableUse → List Variable → Held
find_variable x [] = zero_declared x.declared
find_variable x (w ∷ ws) = if same_variable x w.named then w.held else find_variable x ws

-- the variables with a new one, the newest
abbrev pub with_new : VariableUse → Held → List Variable → List Variable
with_new x held ws = record { named = x; held = held } ∷ ws

-- the variables with the value of one replaced
abbrev pub with_changed : VariableUse → Held → List Variable → List Variable
with_changed x held [] = []
with_changed x held (w ∷ ws) = if same_variable x w.named then record w { held = held } ∷ ws else w ∷ with_changed x held ws

-- the variables without these
abbrev pub without_variables : List VariableUse → List Variable → List Variable
without_variables xs ws = filter (λ w. not (list_any (λ x. same_variable x w.named) xs)) ws

-- the value of a variable with this declaration; that of a foreach is the point of its loop's iteration
abbrev pub value_by : Declaration → Env → VariableUse → Held
value_by (Typed is_single type) env x = find_variable x env.variables
value_by Foreach env x = point_at x.number env.turns

-- ---- types

-- the static type of an expression, where the dimensions of foreach variables aren't known
abbrev pub type_of : Env → NumberedExp → ValueType
type_of env x = syntactic_type env.program (this_of env.method) x

-- the static type of an expression, with the dimensions of foreach variables; only a broadcast needs them, for its value
abbrev pub type_here : Env → NumberedExp → ValueType
type_here env x = type_at env.program (this_of env.method) env.dims x

-- the number of the field that `x.f` selects, from the number of its name; 0 if there is none
abbrev pub field_selected : Env → NumberedExp → ℕ → ℕ
field_selected env x name = unwrap_or (option_and_then (field_numbered env.program name) (class_of_type (type_of env x))) 0
