-- The errors of storing into the target of an assignment.
use Rattle.std.specs.Prelude.{ℕ, Bool, true, false, not, ◌&&◌, if◌then◌else◌, List, ◌++◌, Option, Some, option_and_then}
use Rattle.std.specs.Option.{option_map_or}
use Rattle.ti_base.specs.declared.place.Place.{Place}
use Rattle.ti_lang.specs.Program.Types.{ValueType, Class, Grid, Declaration, Typed, Foreach}
use Rattle.ti_lang.specs.Program.Expressions.{NumberedExp}
use Rattle.ti_lang.specs.Program.Expressions as x
use Rattle.ti_lang.specs.Program.Classes.{ProgramView}
use Rattle.ti_lang.specs.Program.Scope.{ScopeContents}
use Rattle.ti_lang.specs.Typing.Kinds.{is_local, is_point_type}
use Rattle.ti_lang.specs.Typing.Declared.{field_type, named_field_type}
use Rattle.ti_lang.specs.Typing.Expressions.{operand_type}
use Rattle.ti_rules.specs.declared.rule.Rule.TheVariants.{Y1, Y2, Q2}
use Rattle.ti_rules.specs.declared.refusal.Refusal.{Refusal}
use Rattle.ti_rules.specs.Refusals.{refused_if}
use Rattle.ti_rules.specs.Broken.Refused.{refusal_at}

-- the declaration is that of a foreach variable
abbrev pub is_foreach_use : Declaration → Bool
is_foreach_use (Typed is_single type) = false
is_foreach_use Foreach = true

-- a foreach variable
abbrev pub is_foreach_variable : NumberedExp → Bool
is_foreach_variable (x.Variable at v) = is_foreach_use v.declared
is_foreach_variable e = false

-- a coordinate of a point
abbrev pub is_point_coordinate : ProgramView → ScopeContents → NumberedExp → Bool
is_point_coordinate p s (x.Index at a parts) = option_map_or is_point_type (operand_type p s a) false
is_point_coordinate p s e = false

-- the declared type, if there is one, is local
abbrev pub maybe_local : Option ValueType → Bool
maybe_local t = option_map_or is_local t false

-- the field of this name has a local type, and the object, of this type, is a global reference
abbrev pub hidden_field : ProgramView → Option ValueType → ℕ → Bool
hidden_field p (Some (Class c local)) name = maybe_local (named_field_type p c name) && not local
hidden_field p _ name = false

-- the elements have a local type, and the grid, of this type, is a global reference
abbrev pub hidden_element : Option ValueType → Bool
hidden_element (Some (Grid t n local)) = is_local t && not local
hidden_element _ = false

-- a field or an element of local type that is reached through a global reference; `this` is a global reference
abbrev pub is_hidden_local : ProgramView → ScopeContents → NumberedExp → Bool
is_hidden_local p s (x.OwnField at field) = maybe_local (option_and_then (λ c. field_type p c field) s.this_class)
is_hidden_local p s (x.Select at a name) = hidden_field p (operand_type p s a) name
is_hidden_local p s (x.Index at a parts) = hidden_element (operand_type p s a)
is_hidden_local p s e = false

-- the errors of storing into this target, given the errors of the value; a coordinate can't be stored into at all
abbrev pub write_refusals : ProgramView → ScopeContents → Place → NumberedExp → List Refusal → List Refusal
write_refusals p s at target value =
    if is_point_coordinate p s target then refusal_at Y1 at else
    (refused_if (is_foreach_variable target) Y2 at ++ refused_if (is_hidden_local p s target) Q2 at) ++ value
