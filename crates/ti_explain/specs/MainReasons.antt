-- What is wrong with `main`: each part of its form that is missing, or another method with its parameter.
use Rattle.std.specs.Prelude.{◌==◌, Bool, true, not, ◌&&◌, if◌then◌else◌, List, [], ◌∷◌, ◌++◌, length, Option, Some, None, find, bytes_eq, codes}
use Rattle.ti_base.specs.declared.place.Place.{Place}
use Rattle.ti_base.specs.Places.{place_after, same_place}
use Rattle.ti_syntax.specs.Trees.Classes.{ParamsTree, MainArgs, Params, MethodTree, MemberTree, FieldMember, MethodMember, ClassTree, TextTree}
use Rattle.ti_lang.specs.MainForm.{is_public, is_void, is_words, has_main_modifiers}
use Rattle.ti_lang.specs.Members.{is_static, is_single}
use Rattle.ti_explain.specs.declared.name_reason.MainDefect.{MainDefect}
use Rattle.ti_explain.specs.declared.name_reason.MainDefect.TheVariants as defect
use Rattle.ti_explain.specs.declared.name_reason.NameReason.TheVariants as why
use Rattle.ti_explain.specs.declared.reason.RefusalReason.{RefusalReason}
use Rattle.ti_explain.specs.NameReasons.{reason_if, first_nonempty}

abbrev pub defect_if : Bool → Place → MainDefect → List RefusalReason
defect_if is at what = reason_if is at (why.Main what)

-- `public`, `static` and `single` are there, and not alone
abbrev pub has_other_modifiers : MethodTree → Bool
has_other_modifiers m = (is_public m.modifiers && (is_static m && is_single m.modifiers)) && not (length m.modifiers == 3)

-- each part of the form of `main` that this method lacks
abbrev pub form_defects : MethodTree → List RefusalReason
form_defects m = ((((defect_if (not (is_public m.modifiers)) m.place defect.NotPublic ++ defect_if (not (is_static m)) m.place defect.NotStatic)
    ++ defect_if (not (is_single m.modifiers)) m.place defect.NotSingle) ++ defect_if (has_other_modifiers m) m.place defect.OtherModifiers)
    ++ defect_if (not (is_void m.result)) m.place defect.HasResult) ++ defect_if (not (is_words m.params)) m.place defect.OtherParameters

-- the first method `main` among the members of a class
abbrev pub main_among : List MemberTree → Option MethodTree
main_among [] = None
main_among (FieldMember f ∷ rest) = main_among rest
main_among (MethodMember m ∷ rest) = if bytes_eq (codes "main") m.name then Some m else main_among rest

-- the defects of `main`, if it is at this position
abbrev pub method_defects : Place → ClassTree → Option MethodTree → List RefusalReason
method_defects p c None = defect_if (same_place p c.place) p defect.NoMethod
method_defects p c (Some m) = if same_place p m.place then form_defects m else []

-- the defects of the first class `Main`, if they are at this position
abbrev pub class_defects : Place → Option ClassTree → List RefusalReason
class_defects p None = defect_if (same_place p (place_after [])) p defect.NoClass
class_defects p (Some c) = method_defects p c (main_among c.members)

abbrev pub first_main : TextTree → Option ClassTree
first_main text = find (λ (c : ClassTree). bytes_eq (codes "Main") c.name) text

-- ---- the parameter elsewhere

abbrev pub parameter_defect : Bool → ParamsTree → List RefusalReason
parameter_defect here (MainArgs at name) = defect_if here at defect.TextParameter
parameter_defect here (Params params) = []

-- the parameter `String[] x` of the methods at this position
abbrev pub parameters_among : Place → List MemberTree → List RefusalReason
parameters_among p [] = []
parameters_among p (FieldMember f ∷ rest) = parameters_among p rest
parameters_among p (MethodMember m ∷ rest) = parameter_defect (same_place p m.place) m.params ++ parameters_among p rest

abbrev pub parameters_in : Place → TextTree → List RefusalReason
parameters_in p [] = []
parameters_in p (c ∷ rest) = parameters_among p c.members ++ parameters_in p rest

-- the reasons why `main` is refused at this position, or another method for its parameter
abbrev pub main_reasons : TextTree → Place → List RefusalReason
main_reasons text p = first_nonempty (class_defects p (first_main text)) (parameters_in p text)
