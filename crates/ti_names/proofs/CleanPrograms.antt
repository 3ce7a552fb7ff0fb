-- At the nodes of a tree that has a resolved program, no naming rule is proved to be broken.
use Rattle.std.proofs.Common.{◌≡◌, ℕ, ◌==◌, true, false, not, nat_le, List, [], ◌∷◌, length, Option, Some, ap, ◌∙◌, arith}
use Rattle.std.proofs.lemmas.Bool.Decides.{nat_tests}
use Rattle.ti_base.specs.declared.place.Place.{Place}
use Rattle.ti_syntax.specs.declared.tree.types.Base.{Base}
use Rattle.ti_syntax.specs.declared.tree.types.Base.TheVariants as b
use Rattle.ti_syntax.specs.Trees.Types.{TypeTree}
use Rattle.ti_syntax.specs.Trees.Expressions.{Exp, Exps, RangeTree, RangeTrees}
use Rattle.ti_syntax.specs.Trees.Statements.{DimsTree, InitTree, PrintTree, Stm, MaybeStm, Stms}
use Rattle.ti_syntax.specs.Trees.Classes.{FieldTree, ParamTree, ParamsTree, ResultTree, ClassTree, TextTree}
use Rattle.ti_lang.specs.Program.Types.{NumberedType}
use Rattle.ti_lang.specs.Program.Expressions.{NumberedExp, NumberedExps, NumberedRange, NumberedRanges}
use Rattle.ti_lang.specs.Program.Statements.{NumberedDims, NumberedInit, NumberedPrint, NumberedStm, MaybeNumbered, NumberedStms}
use Rattle.ti_lang.specs.Program.Classes.{NumberedField, NumberedClass, NumberedParam, NumberedParams, NumberedResult, NumberedMethod, ProgramView}
use Rattle.ti_lang.specs.Members.{class_named, fields_in, field_named, OwnMethod, method_named}
use Rattle.ti_lang.specs.Scopes.{Site, class_site, most_variables, IsFresh, HasRoom}
use Rattle.ti_lang.specs.Nodes.{base_nodes, type_nodes, exp_nodes, exps_nodes, range_nodes, ranges_nodes, maybe_nodes, dims_nodes}
use Rattle.ti_lang.specs.Nodes.{init_nodes, print_nodes, stm_nodes, maybe_stm_nodes, stms_nodes, fields_nodes, classes_nodes, result_nodes}
use Rattle.ti_lang.specs.Nodes.{param_list_nodes, params_nodes, method_nodes, methods_nodes, nodes_of, node, ClassName, FieldName}
use Rattle.ti_lang.specs.Nodes.{MethodName, VariableName, ClassUse}
use Rattle.ti_lang.specs.Numbering.{IsKnownBase, NumbersType, NumbersExp, NumbersExps, NumbersRange, NumbersRanges, NumbersMaybe}
use Rattle.ti_lang.specs.Numbering.{NumbersDims, NumbersInit, NumbersPrint, NumbersStm, NumbersMaybeStm, NumbersStms, NumbersFields}
use Rattle.ti_lang.specs.Numbering.{NumbersClasses, NumbersResult, NumbersParamList, NumbersParams, NumbersMethod, NumbersMethods, Numbers}
use Rattle.ti_rules.specs.declared.rule.Rule.TheVariants.{N2}
use Rattle.ti_rules.specs.Refusals.{refused_if}
use Rattle.ti_rules.specs.MainForm.{is_another}
use Rattle.ti_names.proofs.CleanNodes.{Clean, first_clean, clean_append}

clean_base : (site : Site) (base : Base) → IsKnownBase site.text base → Clean (base_nodes site base)
clean_base site (b.Int at) k = Clean.no_nodes
clean_base site (b.Long at) k = Clean.no_nodes
clean_base site (b.Boolean at) k = Clean.no_nodes
clean_base site (b.Point at n) k = Clean.no_nodes
clean_base site (b.RectDomain at n) k = Clean.no_nodes
clean_base site (b.Domain at n) k = Clean.no_nodes
clean_base site (b.SharedRegion at) k = Clean.no_nodes
clean_base site (b.Named at name) k = Clean.more_nodes (rw k.1) Clean.no_nodes

clean_type : (site : Site) {t : TypeTree} {u : NumberedType} → NumbersType site.text t u → Clean (type_nodes site t)
clean_type site {t = t} (NumbersType.known k) = clean_base site t.base k

-- ---- expressions

mutual
  clean_exp : {site : Site} {x : Exp} {y : NumberedExp} → NumbersExp site x y → Clean (exp_nodes site x)
  clean_exp NumbersExp.int = Clean.no_nodes
  clean_exp NumbersExp.long = Clean.no_nodes
  clean_exp NumbersExp.truth = Clean.no_nodes
  clean_exp NumbersExp.null = Clean.no_nodes
  clean_exp (NumbersExp.this e) = Clean.more_nodes (rw e) Clean.no_nodes
  clean_exp (NumbersExp.variable e) = Clean.more_nodes (rw e) Clean.no_nodes
  clean_exp (NumbersExp.own_field e f) = Clean.more_nodes (rw (e, f)) Clean.no_nodes
  clean_exp (NumbersExp.call e static args) = Clean.more_nodes (rw e) (clean_exps args)
  clean_exp (NumbersExp.own_call e static args) = Clean.more_nodes (rw e) (clean_exps args)
  clean_exp NumbersExp.this_proc = Clean.no_nodes
  clean_exp NumbersExp.num_procs = Clean.no_nodes
  clean_exp (NumbersExp.point parts) = clean_exps parts
  clean_exp (NumbersExp.rect ranges) = clean_ranges ranges
  clean_exp (NumbersExp.unary x) = clean_exp x
  clean_exp (NumbersExp.binary x y) = clean_append (clean_exp x) (clean_exp y)
  clean_exp {site} (NumbersExp.cast to x) = clean_append (clean_type site to) (clean_exp x)
  clean_exp (NumbersExp.select e x) = let c = clean_exp x in Clean.more_nodes (rw e) (rw e c)
  clean_exp (NumbersExp.member e x args) = let c = clean_exp x in Clean.more_nodes (rw e) (clean_append (rw e c) (clean_exps args))
  clean_exp (NumbersExp.class_call e f args) = Clean.more_nodes (rw (e, f)) (clean_append (rw e Clean.no_nodes) (clean_exps args))
  clean_exp (NumbersExp.index x parts) = clean_append (clean_exp x) (clean_exps parts)

  clean_exps : {site : Site} {xs : Exps} {ys : NumberedExps} → NumbersExps site xs ys → Clean (exps_nodes site xs)
  clean_exps NumbersExps.no_exps = Clean.no_nodes
  clean_exps (NumbersExps.more_exps x rest) = clean_append (clean_exp x) (clean_exps rest)

  clean_range : {site : Site} {r : RangeTree} {q : NumberedRange} → NumbersRange site r q → Clean (range_nodes site r)
  clean_range (NumbersRange.plain x y) = clean_append (clean_exp x) (clean_exp y)
  clean_range (NumbersRange.stepped x y z) = clean_append (clean_append (clean_exp x) (clean_exp y)) (clean_exp z)

  clean_ranges : {site : Site} {rs : RangeTrees} {qs : NumberedRanges} → NumbersRanges site rs qs → Clean (ranges_nodes site rs)
  clean_ranges NumbersRanges.no_ranges = Clean.no_nodes
  clean_ranges (NumbersRanges.more_ranges r rest) = clean_append (clean_range r) (clean_ranges rest)

clean_maybe : {site : Site} {x : Option Exp} {y : Option NumberedExp} → NumbersMaybe site x y → Clean (maybe_nodes site x)
clean_maybe NumbersMaybe.none = Clean.no_nodes
clean_maybe (NumbersMaybe.some x) = clean_exp x

-- ---- statements

clean_dims : {site : Site} {d : DimsTree} {e : NumberedDims} → NumbersDims site d e → Clean (dims_nodes site d)
clean_dims (NumbersDims.domain x) = clean_exp x
clean_dims (NumbersDims.ranges ranges) = clean_ranges ranges

clean_init : {site : Site} {value : InitTree} {v : NumberedInit} → NumbersInit site value v → Clean (init_nodes site value)
clean_init (NumbersInit.value x) = clean_exp x
clean_init NumbersInit.new_region = Clean.no_nodes
clean_init {site} (NumbersInit.new_object {name_at = name_at} {name = name} region class) =
    let named : Clean (node site (ClassUse name_at name) ∷ []) = Clean.more_nodes (rw class) Clean.no_nodes in
    clean_append (clean_maybe region) named
clean_init {site} (NumbersInit.new_grid region element dims) = clean_append (clean_append (clean_maybe region) (clean_type site element)) (clean_dims dims)
clean_init (NumbersInit.broadcast x y) = clean_append (clean_exp x) (clean_exp y)

clean_print : {site : Site} {what : PrintTree} {w : NumberedPrint} → NumbersPrint site what w → Clean (print_nodes site what)
clean_print NumbersPrint.nothing = Clean.no_nodes
clean_print NumbersPrint.text = Clean.no_nodes
clean_print (NumbersPrint.expression x) = clean_exp x
clean_print (NumbersPrint.text_and_expression x) = clean_exp x

-- a fresh variable for which there is room
clean_variable : (site : Site) (at : Place) (name : List ℕ) → IsFresh site name → HasRoom site → Clean (node site (VariableName at name) ∷ [])
clean_variable site at name fresh room =
    let is : nat_le most_variables (length site.scope) ≡ false = grind (arith, nat_tests, room) in
    Clean.more_nodes (rw (fresh, is)) Clean.no_nodes

mutual
  clean_stm : {site : Site} {x : Stm} {y : NumberedStm} → NumbersStm site x y → Clean (stm_nodes site x)
  clean_stm NumbersStm.empty = Clean.no_nodes
  clean_stm (NumbersStm.declare {site = site} {at = at} {name = name} ty fresh room v) =
      clean_append (clean_append (clean_type site ty) (clean_variable site at name fresh room)) (clean_init v)
  clean_stm (NumbersStm.assign target v) = clean_append (clean_exp target) (clean_init v)
  clean_stm (NumbersStm.update target x) = clean_append (clean_exp target) (clean_exp x)
  clean_stm (NumbersStm.step target) = clean_exp target
  clean_stm (NumbersStm.call x) = clean_exp x
  clean_stm (NumbersStm.print what) = clean_print what
  clean_stm NumbersStm.barrier = Clean.no_nodes
  clean_stm NumbersStm.break = Clean.no_nodes
  clean_stm NumbersStm.continue = Clean.no_nodes
  clean_stm (NumbersStm.return value) = clean_maybe value
  clean_stm (NumbersStm.block body) = clean_stms body
  clean_stm (NumbersStm.if_alone d x) = clean_append (clean_exp d) (clean_stm x)
  clean_stm (NumbersStm.if_else d x y) = clean_append (clean_append (clean_exp d) (clean_stm x)) (clean_stm y)
  clean_stm (NumbersStm.while d x) = clean_append (clean_exp d) (clean_stm x)
  clean_stm (NumbersStm.for first d update body) =
      clean_append (clean_append (clean_append (clean_maybe_stm first) (clean_maybe d)) (clean_maybe_stm update)) (clean_stm body)
  clean_stm (NumbersStm.foreach {site = site} {name_at = name_at} {name = name} {c = domain} fresh room d x) =
      let head : Clean (node site (VariableName name_at name) ∷ exp_nodes site domain) = Clean.more_nodes (first_clean (clean_variable site name_at name fresh room)) (clean_exp d) in
      clean_append head (clean_stm x)

  clean_maybe_stm : {site : Site} {x : MaybeStm} {y : MaybeNumbered} → NumbersMaybeStm site x y → Clean (maybe_stm_nodes site x)
  clean_maybe_stm NumbersMaybeStm.no_stm = Clean.no_nodes
  clean_maybe_stm (NumbersMaybeStm.some_stm x) = clean_stm x

  clean_stms : {site : Site} {xs : Stms} {ys : NumberedStms} → NumbersStms site xs ys → Clean (stms_nodes site xs)
  clean_stms NumbersStms.nil = Clean.no_nodes
  clean_stms (NumbersStms.cons x rest) = clean_append (clean_stm x) (clean_stms rest)

-- ---- classes

once : (found : Option ℕ) (number : ℕ) (at : Place) → found ≡ Some number → refused_if (is_another found number) N2 at ≡ []
once found number at is =
    let same : (number == number) ≡ true = grind (arith, nat_tests) in
    ap (λ o. refused_if (is_another o number) N2 at) is ∙ ap (λ b. refused_if (not b) N2 at) same

clean_fields : {text : TextTree} {class number : ℕ} {fs : List FieldTree} {gs : List NumberedField} → NumbersFields text class number fs gs → Clean (fields_nodes (class_site text class) number fs)
clean_fields NumbersFields.none = Clean.no_nodes
clean_fields {text} {class} (NumbersFields.more {number = number} {f = f} first ty rest) =
    let site = class_site text class in
    let head : Clean (node site (FieldName number f) ∷ type_nodes site f.ty) = Clean.more_nodes (once (field_named text class f.name) number f.place first) (clean_type site ty) in
    clean_append head (clean_fields rest)

clean_classes : {text : TextTree} {number : ℕ} {cs : List ClassTree} {ds : List NumberedClass} → NumbersClasses text number cs ds → Clean (classes_nodes text number cs)
clean_classes NumbersClasses.none = Clean.no_nodes
clean_classes {text} (NumbersClasses.more {number = number} {c = c} first fields rest) =
    let site = class_site text number in
    let head : Clean (node site (ClassName number c) ∷ fields_nodes site 0 (fields_in c.members)) = Clean.more_nodes (once (class_named text c.name) number c.place first) (clean_fields fields) in
    clean_append head (clean_classes rest)

clean_result : (site : Site) {r : ResultTree} {s : NumberedResult} → NumbersResult site.text r s → Clean (result_nodes site r)
clean_result site NumbersResult.void = Clean.no_nodes
clean_result site (NumbersResult.typed ty) = clean_type site ty

clean_param_list : {site : Site} {params : List ParamTree} {ys : List NumberedParam} → NumbersParamList site params ys → Clean (param_list_nodes site params)
clean_param_list NumbersParamList.none = Clean.no_nodes
clean_param_list (NumbersParamList.more {site = site} {param = param} ty fresh room rest) =
    clean_append (clean_append (clean_type site ty) (clean_variable site param.place param.name fresh room)) (clean_param_list rest)

clean_params : {site : Site} {params : ParamsTree} {q : NumberedParams} → NumbersParams site params q → Clean (params_nodes site params)
clean_params NumbersParams.words = Clean.no_nodes
clean_params (NumbersParams.params params) = clean_param_list params

clean_method : {site : Site} (number : ℕ) {own : OwnMethod} {method : NumberedMethod}
    → refused_if (is_another (method_named site.text own.class own.method.name) number) N2 own.method.place ≡ []
    → NumbersMethod site own method
    → Clean (method_nodes site number own)
clean_method {site} number {own} first (NumbersMethod.method result ps statements) =
    let head : Clean (node site (MethodName number own) ∷ result_nodes site own.method.result) = Clean.more_nodes first (clean_result site result) in
    clean_append (clean_append head (clean_params ps)) (clean_stms statements)

clean_methods : {text : TextTree} {number before : ℕ} {ms : List OwnMethod} {ns : List NumberedMethod} → NumbersMethods text number before ms ns → Clean (methods_nodes text number before ms)
clean_methods NumbersMethods.none = Clean.no_nodes
clean_methods {text} (NumbersMethods.more {number = number} {own = own} first m rest) =
    clean_append (clean_method number (once (method_named text own.class own.method.name) number own.method.place first) m) (clean_methods rest)

pub clean_program : {text : TextTree} {program : ProgramView} → Numbers text program → Clean (nodes_of text)
clean_program numbers = clean_append (clean_classes numbers.classes) (clean_methods numbers.methods)
