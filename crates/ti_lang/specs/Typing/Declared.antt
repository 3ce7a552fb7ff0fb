-- The declarations of variables, fields and methods that expressions refer to by number.
use Rattle.std.specs.Prelude.{ℕ, Bool, not, ◌&&◌, ◌==◌, List, [], map, Option, Some, find, position, slice_get, option_map}
use Rattle.std.specs.List.{list_any}
use Rattle.std.specs.Option.{option_map_or}
use Rattle.ti_syntax.specs.declared.tree.classes.Modifier.{Modifier}
use Rattle.ti_lang.specs.Members.{only_if, is_static_word}
use Rattle.ti_lang.specs.Program.Types.{ValueType, Declaration, Typed, Foreach, VariableUse}
use Rattle.ti_lang.specs.Program.Types as ty
use Rattle.ti_lang.specs.Program.Classes.{NumberedField, NumberedClass, NumberedParam, NumberedResult, NumberedMethod, ProgramView}
use Rattle.ti_lang.specs.Program.Classes as c
use Rattle.ti_lang.specs.Program.Scope.{ScopeVariable, ScopeContents}

-- ---- variables

-- the variable in scope of this number
abbrev pub in_scope : ScopeContents → ℕ → Option ScopeVariable
in_scope s number = find (λ (v : ScopeVariable). v.number == number) s.variables

-- the type of a variable: the declared one; for a foreach variable, that in its scope
abbrev pub declared_type : ScopeContents → ℕ → Declaration → Option ValueType
declared_type s number (Typed is_single type) = Some type
declared_type s number Foreach = option_map (λ (v : ScopeVariable). v.type) (in_scope s number)

-- the type of a used variable
abbrev pub variable_type : ScopeContents → VariableUse → Option ValueType
variable_type s v = declared_type s v.number v.declared

-- ---- fields

-- the fields of a class; none if there is no such class
abbrev pub fields_of_class : ProgramView → ℕ → List NumberedField
fields_of_class p class = option_map_or (λ (c : NumberedClass). c.fields) (slice_get p.classes class) []

-- the type of the field of this number
abbrev pub field_type : ProgramView → ℕ → ℕ → Option ValueType
field_type p class field = option_map (λ (f : NumberedField). f.ty.type) (slice_get (fields_of_class p class) field)

-- the type of the first field of this name
unfoldable pub named_field_type : ProgramView → ℕ → ℕ → Option ValueType
named_field_type p class name =
    option_map (λ (f : NumberedField). f.ty.type) (find (λ (f : NumberedField). f.name == name) (fields_of_class p class))

-- the number, within its class, of the first field of this name
abbrev pub field_numbered : ProgramView → ℕ → ℕ → Option ℕ
field_numbered p name class = position (λ (f : NumberedField). f.name == name) (fields_of_class p class)

-- ---- methods

-- the method has the modifier `static`
abbrev pub is_static_method : NumberedMethod → Bool
is_static_method m = list_any (λ (x : Modifier). is_static_word x.word) m.modifiers

-- the first method of this name in a class, if that is an instance method
unfoldable pub instance_method : ProgramView → ℕ → ℕ → Option NumberedMethod
instance_method p class name = only_if (λ (m : NumberedMethod). not (is_static_method m))
    (find (λ (m : NumberedMethod). (m.class == class) && (m.name == name)) p.methods)

-- the type of a declared result
abbrev pub type_of_result : NumberedResult → ValueType
type_of_result c.Void = ty.Void
type_of_result (c.Typed t) = t.type

-- the type of a call of the method
abbrev pub result_type : NumberedMethod → ValueType
result_type m = type_of_result m.result

-- the types of parameters
abbrev pub types_of : List NumberedParam → List ValueType
types_of params = map (λ (p : NumberedParam). p.ty.type) params
