-- If no naming rule is broken in a tree, the model is proved to resolve it as specified.
use Rattle.std.proofs.Common.{◌≡◌, ℕ, ◌+◌, ◌==◌, Bool, true, false, not, List, [], ◌∷◌, ◌++◌, length, Option, Some, None, refl, ap, arith}
use Rattle.std.proofs.lemmas.Bool.Decides.{nat_tests}
use Rattle.std.specs.Option.{unwrap_or}
use Rattle.ti_base.specs.declared.place.Place.{Place}
use Rattle.ti_syntax.specs.Trees.Statements.{stms}
use Rattle.ti_syntax.specs.Trees.Classes.{FieldTree, ParamTree, ParamsTree, ResultTree, MethodTree, ClassTree, TextTree}
use Rattle.ti_syntax.specs.Trees.Classes as c
use Rattle.ti_lang.specs.Members.{class_named, fields_in, field_named, OwnMethod, methods_of, method_named}
use Rattle.ti_lang.specs.Scopes.{Site, class_site, declares, typed_as, literals_in, method_site, body_site}
use Rattle.ti_lang.specs.Nodes.{type_nodes, result_nodes, param_list_nodes, params_nodes, fields_nodes, classes_nodes, method_nodes, methods_nodes, nodes_of, node, VariableName, ClassName, FieldName, MethodName}
use Rattle.ti_lang.specs.Numbering.{NumbersFields, NumbersClasses, NumbersResult, NumbersParamList, NumbersParams, NumbersMethod, NumbersMethods, HasMain, Numbers}
use Rattle.ti_rules.specs.declared.rule.Rule.TheVariants.{N2}
use Rattle.ti_rules.specs.Refusals.{refused_if}
use Rattle.ti_rules.specs.MainForm.{is_another, main_method}
use Rattle.ti_names.specs.Mirrors.Numbered.{number_fields, number_classes, number_result, number_param_list, number_params, number_method, number_methods, number_program}
use Rattle.ti_names.proofs.CleanNodes.{Clean, first_clean, rest_clean, clean_left, clean_right}
use Rattle.ti_names.proofs.Total.{total_type}
use Rattle.ti_names.proofs.Lists.{number_stms_list}
use Rattle.ti_names.proofs.TotalStatements.{fresh_variable, room_for_variable, total_stms}

-- the number isn't another one
pub same_number : (found : Option ℕ) (number : ℕ) (at : Place) → refused_if (is_another found number) N2 at ≡ [] → found ≡ Some number
same_number None number at none = cc
same_number (Some n) number at none = by (n == number) refl none
  where
    same : (n == number) ≡ true → n ≡ number
    same is = grind (arith, nat_tests, is)

    by : (b : Bool) → (n == number) ≡ b → refused_if (not b) N2 at ≡ [] → Some n ≡ Some number
    by true is none = ap Some (same is)
    by false is none = cc

total_fields : (text : TextTree) (class number : ℕ) (fs : List FieldTree) → Clean (fields_nodes (class_site text class) number fs) → NumbersFields text class number fs (number_fields text fs)
total_fields text class number [] c = NumbersFields.none
total_fields text class number (f ∷ fs) c =
    let site = class_site text class in
    let head = node site (FieldName number f) ∷ type_nodes site f.ty in
    let both = clean_left head _ c in
    NumbersFields.more (same_number (field_named text class f.name) number f.place (first_clean both))
    (total_type site f.ty (rest_clean both)) (total_fields text class (number + 1) fs (clean_right head _ c))

total_classes : (text : TextTree) (number : ℕ) (cs : List ClassTree) → Clean (classes_nodes text number cs) → NumbersClasses text number cs (number_classes text cs)
total_classes text number [] c = NumbersClasses.none
total_classes text number (class ∷ cs) c =
    let site = class_site text number in
    let head = node site (ClassName number class) ∷ fields_nodes site 0 (fields_in class.members) in
    let both = clean_left head _ c in
    NumbersClasses.more (same_number (class_named text class.name) number class.place (first_clean both))
    (total_fields text number 0 (fields_in class.members) (rest_clean both)) (total_classes text (number + 1) cs (clean_right head _ c))

total_result : (site : Site) (r : ResultTree) → Clean (result_nodes site r) → NumbersResult site.text r (number_result site.text r)
total_result site (c.Void at) clean = NumbersResult.void
total_result site (c.Typed ty) clean = NumbersResult.typed (total_type site ty clean)

total_param_list : (site : Site) (params : List ParamTree) → Clean (param_list_nodes site params) → NumbersParamList site params (number_param_list site.text params)
total_param_list site [] c = NumbersParamList.none
total_param_list site (p ∷ ps) c =
    let head = type_nodes site p.ty ++ node site (VariableName p.place p.name) ∷ [] in
    let both = clean_left head _ c in
    let variable = clean_right (type_nodes site p.ty) _ both in
    NumbersParamList.more (total_type site p.ty (clean_left (type_nodes site p.ty) _ both)) (fresh_variable site p.place p.name variable) (room_for_variable site p.place p.name variable)
    (total_param_list (declares site p.name (typed_as site.text p.ty)) ps (clean_right head _ c))

total_params : (site : Site) (params : ParamsTree) → Clean (params_nodes site params) → NumbersParams site params (number_params site.text params)
total_params site (c.MainArgs at name) clean = NumbersParams.words
total_params site (c.Params params) clean = NumbersParams.params (total_param_list site params clean)

total_method : (site : Site) (number : ℕ) (own : OwnMethod) → Clean (method_nodes site number own) → NumbersMethod site own (number_method site own)
total_method site number own c =
    let m = own.method in
    let inside = body_site site m.params in
    let one = node site (MethodName number own) ∷ result_nodes site m.result in
    let two = one ++ params_nodes site m.params in
    let clean_two = clean_left two _ c in
    NumbersMethod.method (total_result site m.result (rest_clean (clean_left one _ clean_two))) (total_params site m.params (clean_right one _ clean_two))
    (rw (← number_stms_list inside m.body) (total_stms inside (stms m.body) (clean_right two _ c)))

named_once : (site : Site) (number : ℕ) (own : OwnMethod) → Clean (method_nodes site number own) → method_named site.text own.class own.method.name ≡ Some number
named_once site number own c =
    let m = own.method in
    let one = node site (MethodName number own) ∷ result_nodes site m.result in
    let two = one ++ params_nodes site m.params in
    same_number (method_named site.text own.class m.name) number own.method.place (first_clean (clean_left one _ (clean_left two _ c)))

total_methods : (text : TextTree) (number before : ℕ) (ms : List OwnMethod) → Clean (methods_nodes text number before ms) → NumbersMethods text number before ms (number_methods text before ms)
total_methods text number before [] c = NumbersMethods.none
total_methods text number before (own ∷ rest) c =
    let site = method_site text own before in
    let head = method_nodes site number own in
    NumbersMethods.more (named_once site number own (clean_left head _ c)) (total_method site number own (clean_left head _ c))
    (total_methods text (number + 1) (before + length (literals_in (stms own.method.body))) rest (clean_right head _ c))

-- everything but `main`
pub total_program : (text : TextTree) → Clean (nodes_of text) → HasMain text (unwrap_or (main_method text) 0) → Numbers text (number_program text)
total_program text c main = record {
  classes = total_classes text 0 text (clean_left (classes_nodes text 0 text) _ c);
  methods = total_methods text 0 0 (methods_of text) (clean_right (classes_nodes text 0 text) _ c);
  main = main;
  names = refl;
  literals = refl;
}
