-- Errors in qualifiers and modifiers.
use Rattle.std.specs.Prelude.{Bool, true, false, not, ◌&&◌, ◌||◌, if◌then◌else◌, List, [], ◌∷◌, ◌++◌, flat_map}
use Rattle.std.specs.List.{list_any}
use Rattle.ti_syntax.specs.declared.tree.types.Qualifier.{Qualifier}
use Rattle.ti_syntax.specs.declared.tree.classes.Modifier.{Modifier}
use Rattle.ti_syntax.specs.declared.tree.classes.ModifierWord.{ModifierWord}
use Rattle.ti_syntax.specs.declared.tree.classes.ModifierWord.TheVariants as word
use Rattle.ti_syntax.specs.Trees.Types.{GridTree}
use Rattle.ti_lang.specs.Members as modifier
use Rattle.ti_lang.specs.Scopes as qualifier
use Rattle.ti_lang.specs.Program.Types.{ValueType, Grid, NumberedType}
use Rattle.ti_lang.specs.Typing.Kinds.{same_truth, is_object}
use Rattle.ti_rules.specs.declared.rule.Rule.TheVariants.{Y7}
use Rattle.ti_rules.specs.declared.refusal.Refusal.{Refusal}
use Rattle.ti_rules.specs.Refusals.{refused_if}

-- ---- duplicates

-- both are `single`, or both are `local`
abbrev pub same_qualifier : Qualifier → Qualifier → Bool
same_qualifier q r = same_truth (qualifier.is_single_word q.word) (qualifier.is_single_word r.word)

-- the errors of qualifiers that occur among those before them
abbrev pub repeated_qualifiers : List Qualifier → List Qualifier → List Refusal
repeated_qualifiers before [] = []
repeated_qualifiers before (q ∷ rest) = refused_if (list_any (same_qualifier q) before) Y7 q.place ++ repeated_qualifiers (q ∷ before) rest

-- both are the same keyword
abbrev pub same_word : ModifierWord → ModifierWord → Bool
same_word word.Public word.Public = true
same_word word.Private word.Private = true
same_word word.Protected word.Protected = true
same_word word.Static word.Static = true
same_word word.Final word.Final = true
same_word word.Single word.Single = true
same_word _ _ = false

-- the errors of modifiers that occur among those before them
abbrev pub repeated_modifiers : List Modifier → List Modifier → List Refusal
repeated_modifiers before [] = []
repeated_modifiers before (m ∷ rest) =
    refused_if (list_any (λ (other : Modifier). same_word m.word other.word) before) Y7 m.place ++ repeated_modifiers (m ∷ before) rest

-- ---- qualifiers of types

-- the innermost element type of a grid; any other type itself
abbrev pub base_of : ValueType → ValueType
base_of (Grid t n local) = base_of t
base_of t = t

-- the type is a grid
abbrev pub is_grid_type : ValueType → Bool
is_grid_type (Grid t n local) = true
is_grid_type _ = false

-- a qualifier of the base of a type: `single` is allowed if the type may be single and is neither a class nor a grid, `local` on a class
abbrev pub base_word_refusals : Bool → ValueType → Qualifier → List Refusal
base_word_refusals may_be_single t q =
    refused_if (if qualifier.is_single_word q.word then (is_object (base_of t) || is_grid_type t) || not may_be_single else not
    (is_object (base_of t))) Y7 q.place

-- a qualifier after a bracket: a grid can't be single
abbrev pub grid_word_refusals : Qualifier → List Refusal
grid_word_refusals q = refused_if (qualifier.is_single_word q.word) Y7 q.place

-- the errors of the qualifiers after a bracket
abbrev pub grid_refusals : GridTree → List Refusal
grid_refusals g = repeated_qualifiers [] g.qualifiers ++ flat_map grid_word_refusals g.qualifiers

-- the errors of the qualifiers of a type, which is allowed to be single or not
abbrev pub type_word_refusals : Bool → NumberedType → List Refusal
type_word_refusals may_be_single t =
    (repeated_qualifiers [] t.qualifiers ++ flat_map (base_word_refusals may_be_single t.type) t.qualifiers)
    ++ flat_map grid_refusals t.grids

-- ---- modifiers

-- a field can be neither single nor static
abbrev pub field_modifier_refusals : Modifier → List Refusal
field_modifier_refusals m = refused_if (modifier.is_single_word m.word || modifier.is_static_word m.word) Y7 m.place

-- a method that isn't static can't be single
abbrev pub method_modifier_refusals : Bool → Modifier → List Refusal
method_modifier_refusals is_static m = refused_if (modifier.is_single_word m.word && not is_static) Y7 m.place
