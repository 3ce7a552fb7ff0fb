-- Notation for programs with all their qualifiers and modifiers: what has the keyword `single` is single.
use Rattle.std.specs.Prelude.{ℕ, List, []}
use Rattle.ti_base.specs.declared.place.Place.{Place}
use Rattle.ti_syntax.specs.declared.tree.types.Qualifier.{Qualifier}
use Rattle.ti_syntax.specs.declared.tree.types.QualifierWord.{QualifierWord}
use Rattle.ti_syntax.specs.declared.tree.classes.Modifier.{Modifier}
use Rattle.ti_syntax.specs.declared.tree.classes.ModifierWord.{ModifierWord}
use Rattle.ti_syntax.specs.Trees.Types.{GridTree}
use Rattle.ti_lang.specs.Members.{is_single}
use Rattle.ti_lang.specs.Scopes.{has_single}
use Rattle.ti_lang.specs.Program.Types.{ValueType, NumberedType, VariableUse, Declaration}
use Rattle.ti_lang.specs.Program.Statements.{NumberedStm}
use Rattle.ti_lang.specs.Program.Classes.{NumberedField, NumberedClass, NumberedParam, NumberedParams, NumberedResult, NumberedMethod, ProgramView}
use Rattle.ti_rows.specs.Texts.{names_with}

-- a qualifier of a type
abbrev pub qualifier : QualifierWord → Place → Qualifier
qualifier word at = record { word = word; place = at }

-- a modifier of a member
abbrev pub modifier : ModifierWord → Place → Modifier
modifier word at = record { word = word; place = at }

-- a bracket of a grid type, with the qualifiers after it
abbrev pub bracket : ℕ → List Qualifier → GridTree
bracket dim words = record { dim = dim; qualifiers = words }

-- a type with the qualifiers of its base, and its brackets
abbrev pub type_with : ValueType → List Qualifier → List GridTree → NumberedType
type_with type words grids = record { type = type; is_single = has_single words; qualifiers = words; grids = grids }

-- a variable with this number, where it is used
abbrev pub variable_use : ℕ → Declaration → VariableUse
variable_use number declared = record { number = number; declared = declared }

-- a field with this name
abbrev pub field_with : List Modifier → NumberedType → ℕ → NumberedField
field_with words type name = record { modifiers = words; ty = type; name = name }

-- a class with fields
abbrev pub class_with : List Modifier → List NumberedField → NumberedClass
class_with words fields = record { modifiers = words; fields = fields }

-- a parameter, with the place of its name
abbrev pub param_with : Place → NumberedType → NumberedParam
param_with at type = record { place = at; ty = type }

-- a method of a class, with its name, the place of its name, and the place at which it ends
abbrev pub method_with : ℕ → List Modifier → NumberedResult → Place → ℕ → NumberedParams → List NumberedStm → Place → NumberedMethod
method_with class words result at name params body end =
    record {
      class = class;
      modifiers = words;
      is_single = is_single words;
      result = result;
      place = at;
      name = name;
      params = params;
      body = body;
      end = end;
    }

-- a program of classes and methods (of which one is `main`), with names after those of the language and without string literals
abbrev pub program_with_names : List NumberedClass → List NumberedMethod → ℕ → List (List ℕ) → ProgramView
program_with_names classes methods main names =
    record { classes = classes; methods = methods; main = main; names = names_with names; literals = [] }
