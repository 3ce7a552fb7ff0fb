-- Why a keyword of a type or of a declaration can't be where it is. The keyword is the one at the position of the refusal.
use Rattle.std.specs.Prelude.{Bool, true, false, ◌||◌, if◌then◌else◌, List, [], ◌∷◌, Option, Some, None}
use Rattle.std.specs.Option.{option_map, option_or}
use Rattle.ti_base.specs.declared.place.Place.{Place}
use Rattle.ti_base.specs.Places.{same_place}
use Rattle.ti_syntax.specs.declared.tree.types.Qualifier.{Qualifier}
use Rattle.ti_syntax.specs.declared.tree.types.QualifierWord.{QualifierWord}
use Rattle.ti_syntax.specs.declared.tree.types.QualifierWord.TheVariants as q
use Rattle.ti_syntax.specs.declared.tree.classes.Modifier.{Modifier}
use Rattle.ti_syntax.specs.declared.tree.classes.ModifierWord.{ModifierWord}
use Rattle.ti_syntax.specs.declared.tree.classes.ModifierWord.TheVariants as w
use Rattle.ti_syntax.specs.Trees.Types.{GridTree}
use Rattle.ti_lang.specs.Program.Types.{ValueType, NumberedType}
use Rattle.ti_lang.specs.Program.Expressions.{NumberedExp}
use Rattle.ti_lang.specs.Program.Expressions as x
use Rattle.ti_lang.specs.Program.Statements.{NumberedInit, NumberedStm}
use Rattle.ti_lang.specs.Program.Statements as st
use Rattle.ti_lang.specs.Program.Classes.{NumberedField, NumberedClass, NumberedParam, NumberedParams, NumberedResult, NumberedMethod}
use Rattle.ti_lang.specs.Program.Classes as c
use Rattle.ti_lang.specs.Typing.Kinds.{is_object}
use Rattle.ti_lang.specs.Typing.Declared.{is_static_method}
use Rattle.ti_rules.specs.Broken.Words.{base_of, is_grid_type}
use Rattle.ti_explain.specs.declared.type_reason.WordDefect.{WordDefect}
use Rattle.ti_explain.specs.declared.type_reason.WordDefect.TheVariants.{Once, SingleField, StaticField, SingleInstance, SingleReference, SingleThere, LocalValue}

-- ---- types

-- the keyword of the qualifier at the position
abbrev pub qualifier_at : Place → List Qualifier → Option QualifierWord
qualifier_at at [] = None
qualifier_at at (other ∷ rest) = if same_place at other.place then Some other.word else qualifier_at at rest

-- why it can't qualify the base of this type, which is allowed to be single or not
abbrev pub base_defect : Bool → ValueType → QualifierWord → WordDefect
base_defect may_be_single t q.Single =
    if is_object (base_of t) || is_grid_type t then SingleReference else if may_be_single then Once else SingleThere
base_defect may_be_single t q.Local = if is_object (base_of t) then Once else LocalValue

-- why it can't qualify a grid
abbrev pub grid_defect : QualifierWord → WordDefect
grid_defect q.Single = SingleReference
grid_defect q.Local = Once

abbrev pub defect_in_grids : Place → List GridTree → Option WordDefect
defect_in_grids at [] = None
defect_in_grids at (g ∷ rest) = option_or (option_map grid_defect (qualifier_at at g.qualifiers)) (defect_in_grids at rest)

-- of the keyword at the position in a type, which is allowed to be single or not
abbrev pub defect_in_type : Bool → Place → NumberedType → Option WordDefect
defect_in_type may_be_single at t =
    option_or (option_map (base_defect may_be_single t.type) (qualifier_at at t.qualifiers)) (defect_in_grids at t.grids)

-- ---- modifiers

-- the keyword of the modifier at the position
abbrev pub modifier_at : Place → List Modifier → Option ModifierWord
modifier_at at [] = None
modifier_at at (other ∷ rest) = if same_place at other.place then Some other.word else modifier_at at rest

abbrev pub field_defect : ModifierWord → WordDefect
field_defect w.Single = SingleField
field_defect w.Static = StaticField
field_defect word = Once

abbrev pub method_defect : Bool → ModifierWord → WordDefect
method_defect is_static w.Single = if is_static then Once else SingleInstance
method_defect is_static word = Once

abbrev pub class_defect : ModifierWord → WordDefect
class_defect word = Once

-- ---- classes

abbrev pub defect_in_field : Place → NumberedField → Option WordDefect
defect_in_field at f = option_or (option_map field_defect (modifier_at at f.modifiers)) (defect_in_type false at f.ty)

abbrev pub defect_in_fields : Place → List NumberedField → Option WordDefect
defect_in_fields at [] = None
defect_in_fields at (f ∷ rest) = option_or (defect_in_field at f) (defect_in_fields at rest)

abbrev pub defect_in_class : Place → NumberedClass → Option WordDefect
defect_in_class at class = option_or (option_map class_defect (modifier_at at class.modifiers)) (defect_in_fields at class.fields)

abbrev pub defect_in_classes : Place → List NumberedClass → Option WordDefect
defect_in_classes at [] = None
defect_in_classes at (class ∷ rest) = option_or (defect_in_class at class) (defect_in_classes at rest)

-- ---- methods

abbrev pub defect_in_result : Place → NumberedResult → Option WordDefect
defect_in_result at c.Void = None
defect_in_result at (c.Typed t) = defect_in_type true at t

abbrev pub defect_among_params : Bool → Place → List NumberedParam → Option WordDefect
defect_among_params is_single at [] = None
defect_among_params is_single at (p ∷ rest) = option_or (defect_in_type is_single at p.ty) (defect_among_params is_single at rest)

abbrev pub defect_in_params : Bool → Place → NumberedParams → Option WordDefect
defect_in_params is_single at c.MainArgs = None
defect_in_params is_single at (c.Params params) = defect_among_params is_single at params

-- of the keyword at the position in the head of a method
abbrev pub defect_in_head : Place → NumberedMethod → Option WordDefect
defect_in_head at m =
    option_or (option_map (method_defect (is_static_method m)) (modifier_at at m.modifiers))
    (option_or (defect_in_result at m.result) (defect_in_params m.is_single at m.params))

-- ---- statements

-- the elements of a new grid can't be single
abbrev pub defect_in_initial : Place → NumberedInit → Option WordDefect
defect_in_initial at (st.NewGrid here region element dims_at dims) = defect_in_type false at element
defect_in_initial at value = None

-- a variable can be single
abbrev pub defect_in_statement : Place → NumberedStm → Option WordDefect
defect_in_statement at (st.Declare here type variable value) = option_or (defect_in_type true at type) (defect_in_initial at value)
defect_in_statement at (st.Assign here target value) = defect_in_initial at value
defect_in_statement at other = None

-- the type of a cast can't be single
abbrev pub defect_in_cast : Place → Option NumberedExp → Option WordDefect
defect_in_cast at (Some (x.Cast here to a)) = defect_in_type false at to
defect_in_cast at found = None
