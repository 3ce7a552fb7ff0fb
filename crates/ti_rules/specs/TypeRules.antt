-- The errors of a program by the rules of types and qualifiers.
use Rattle.std.specs.Prelude.{Bool, true, false, not, ◌&&◌, List, [], ◌∷◌, ◌++◌, flat_map}
use Rattle.ti_lang.specs.Program.Statements.{NumberedStm}
use Rattle.ti_lang.specs.Program.Statements as st
use Rattle.ti_lang.specs.Program.Classes.{NumberedField, NumberedClass, NumberedParam, NumberedResult, NumberedParams, NumberedMethod, ProgramView}
use Rattle.ti_lang.specs.Program.Classes as c
use Rattle.ti_lang.specs.Typing.Kinds.{is_void}
use Rattle.ti_lang.specs.Typing.Declared.{is_static_method, result_type}
use Rattle.ti_rules.specs.declared.rule.Rule.TheVariants.{Y6}
use Rattle.ti_rules.specs.declared.refusal.Refusal.{Refusal}
use Rattle.ti_rules.specs.Refusals.{refused_if}
use Rattle.ti_rules.specs.StmtInContext.{standing_in_method}
use Rattle.ti_rules.specs.Broken.Words.{repeated_modifiers, type_word_refusals, field_modifier_refusals, method_modifier_refusals}
use Rattle.ti_rules.specs.Broken.Statements.{standing_refusals}

-- ---- classes

-- the errors in the modifiers and qualifiers of a field
abbrev pub field_refusals : NumberedField → List Refusal
field_refusals f = (repeated_modifiers [] f.modifiers ++ flat_map field_modifier_refusals f.modifiers) ++ type_word_refusals false f.ty

-- the errors in the modifiers of a class, and of its fields
abbrev pub class_refusals : NumberedClass → List Refusal
class_refusals c = repeated_modifiers [] c.modifiers ++ flat_map field_refusals c.fields

-- ---- methods

-- the errors in the qualifiers of a result, which may be single
abbrev pub result_refusals : NumberedResult → List Refusal
result_refusals c.Void = []
result_refusals (c.Typed t) = type_word_refusals true t

-- the errors in the qualifiers of parameters, which may be single if their method is
abbrev pub params_refusals : Bool → NumberedParams → List Refusal
params_refusals is_single c.MainArgs = []
params_refusals is_single (c.Params params) = flat_map (λ (x : NumberedParam). type_word_refusals is_single x.ty) params

-- the errors in the modifiers and qualifiers of a method's signature
abbrev pub head_refusals : NumberedMethod → List Refusal
head_refusals m =
    ((repeated_modifiers [] m.modifiers ++ flat_map (method_modifier_refusals (is_static_method m)) m.modifiers)
    ++ result_refusals m.result) ++ params_refusals m.is_single m.params

-- the statement is a `return`
abbrev pub is_return : NumberedStm → Bool
is_return (st.Return at value) = true
is_return x = false

-- the last statement of a list is a `return`
abbrev pub ends_with_return : List NumberedStm → Bool
ends_with_return [] = false
ends_with_return (x ∷ []) = is_return x
ends_with_return (x ∷ y ∷ rest) = ends_with_return (y ∷ rest)

-- the error of a method with a result that doesn't end with a `return`
abbrev pub end_refusals : NumberedMethod → List Refusal
end_refusals m = refused_if (not (is_void (result_type m)) && not (ends_with_return m.body)) Y6 m.place

-- the errors of a method
abbrev pub method_refusals : ProgramView → NumberedMethod → List Refusal
method_refusals p m = (head_refusals m ++ end_refusals m) ++ flat_map (standing_refusals p) (standing_in_method p m)

-- ---- programs

-- the errors of a program by the rules of types and qualifiers
abbrev pub type_refusals : ProgramView → List Refusal
type_refusals p = flat_map class_refusals p.classes ++ flat_map (method_refusals p) p.methods
