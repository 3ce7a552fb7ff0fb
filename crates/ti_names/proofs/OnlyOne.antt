-- A tree is proved to have no resolved program other than that of the model.
use Rattle.std.proofs.Common.{◌≡◌, ℕ, List, [], ◌∷◌, map, Option, Some, codes, refl, ap, sym, ◌∙◌}
use Rattle.std.specs.Option.{unwrap_or, option_and_then}
use Rattle.ti_syntax.specs.Trees.Types.{TypeTree}
use Rattle.ti_syntax.specs.Trees.Expressions.{Exp, Exps, RangeTree, RangeTrees}
use Rattle.ti_syntax.specs.Trees.Statements.{DimsTree, InitTree, PrintTree, Stm, MaybeStm, Stms}
use Rattle.ti_syntax.specs.Trees.Classes.{FieldTree, ParamTree, ParamsTree, ResultTree, ClassTree, TextTree}
use Rattle.ti_lang.specs.Program.Types.{NumberedType}
use Rattle.ti_lang.specs.Program.Expressions.{NumberedExp, NumberedExps, NumberedRange, NumberedRanges, numbered_ranges}
use Rattle.ti_lang.specs.Program.Expressions as n
use Rattle.ti_lang.specs.Program.Statements.{NumberedDims, NumberedInit, NumberedPrint, NumberedStm, MaybeNumbered, NumberedStms, numbered_stms}
use Rattle.ti_lang.specs.Program.Statements as m
use Rattle.ti_lang.specs.Program.Classes.{NumberedField, NumberedClass, NumberedParam, NumberedParams, NumberedResult, NumberedMethod, ProgramView}
use Rattle.ti_lang.specs.Program.Classes as p
use Rattle.ti_lang.specs.Members.{OwnMethod, is_single, method_named, name_number}
use Rattle.ti_lang.specs.Scopes.{numbered_type, Site, body_site}
use Rattle.ti_lang.specs.Numbering.{NumbersType, NumbersExp, NumbersExps, NumbersRange, NumbersRanges, NumbersMaybe, NumbersDims}
use Rattle.ti_lang.specs.Numbering.{NumbersInit, NumbersPrint, NumbersStm, NumbersMaybeStm, NumbersStms, NumbersFields, NumbersClasses}
use Rattle.ti_lang.specs.Numbering.{NumbersResult, NumbersParamList, NumbersParams, NumbersMethod, NumbersMethods, HasMain, Numbers}
use Rattle.ti_rules.specs.MainForm.{main_method}
use Rattle.ti_names.specs.Mirrors.Numbered.{number_exp, number_exps, number_range, number_ranges, number_maybe, number_dims, number_init}
use Rattle.ti_names.specs.Mirrors.Numbered.{number_print, number_stm, number_maybe_stm, number_stms, number_list, number_fields}
use Rattle.ti_names.specs.Mirrors.Numbered.{number_classes, number_result, number_param_list, number_params, number_method, number_methods}
use Rattle.ti_names.specs.Mirrors.Numbered.{number_program}
use Rattle.ti_names.proofs.Lists.{number_ranges_list, number_stms_list}

only_type : {text : TextTree} {t : TypeTree} {u : NumberedType} → NumbersType text t u → u ≡ numbered_type text t
only_type (NumbersType.known k) = refl

-- ---- expressions

mutual
  pub only_exp : {site : Site} {x : Exp} {y : NumberedExp} → NumbersExp site x y → y ≡ number_exp site x
  only_exp NumbersExp.int = refl
  only_exp NumbersExp.long = refl
  only_exp NumbersExp.truth = refl
  only_exp NumbersExp.null = refl
  only_exp (NumbersExp.this e) = refl
  only_exp (NumbersExp.variable e) = rw e
  only_exp (NumbersExp.own_field e f) = rw (e, f)
  only_exp (NumbersExp.call {at = at} {method = method} e static args) = rw (e, static) (ap (n.Call at method) (only_exps args))
  only_exp (NumbersExp.own_call {at = at} {method = method} e static args) = rw (e, static) (ap (n.OwnCall at method) (only_exps args))
  only_exp NumbersExp.this_proc = refl
  only_exp NumbersExp.num_procs = refl
  only_exp (NumbersExp.point {at = at} parts) = ap (n.Point at) (only_exps parts)
  only_exp (NumbersExp.rect {at = at} ranges) = ap (n.Rect at) (only_ranges ranges)
  only_exp (NumbersExp.unary {at = at} {op = op} x) = ap (n.Unary at op) (only_exp x)
  only_exp (NumbersExp.binary {at = at} {op = op} x y) = let a = only_exp x in let b = only_exp y in λ i. n.Binary at op (a i) (b i)
  only_exp (NumbersExp.cast {at = at} to x) = let a = only_type to in let b = only_exp x in λ i. n.Cast at (a i) (b i)
  only_exp {site} (NumbersExp.select {at = at} {name = name} e x) = rw e (ap (λ z. n.Select at z (name_number site.text name)) (only_exp x))
  only_exp {site} (NumbersExp.member {at = at} {name = name} e x args) = let a = only_exp x in let b = only_exps args in rw e (λ i. n.Member at (a i) (name_number site.text name) (b i))
  only_exp (NumbersExp.class_call {at = at} {method = method} e f args) = rw (e, f) (ap (n.Call at method) (only_exps args))
  only_exp (NumbersExp.index {at = at} x parts) = let a = only_exp x in let b = only_exps parts in λ i. n.Index at (a i) (b i)

  pub only_exps : {site : Site} {xs : Exps} {ys : NumberedExps} → NumbersExps site xs ys → ys ≡ number_exps site xs
  only_exps NumbersExps.no_exps = refl
  only_exps (NumbersExps.more_exps x rest) = let a = only_exp x in let b = only_exps rest in λ i. n.MoreExp (a i) (b i)

  pub only_range : {site : Site} {r : RangeTree} {q : NumberedRange} → NumbersRange site r q → q ≡ number_range site r
  only_range (NumbersRange.plain x y) = let a = only_exp x in let b = only_exp y in λ i. n.Plain (a i) (b i)
  only_range (NumbersRange.stepped x y z) = let a = only_exp x in let b = only_exp y in let c = only_exp z in λ i. n.Stepped (a i) (b i) (c i)

  pub only_ranges : {site : Site} {rs : RangeTrees} {qs : NumberedRanges} → NumbersRanges site rs qs → qs ≡ number_ranges site rs
  only_ranges NumbersRanges.no_ranges = refl
  only_ranges (NumbersRanges.more_ranges r rest) = let a = only_range r in let b = only_ranges rest in λ i. n.MoreRange (a i) (b i)

only_maybe : {site : Site} {x : Option Exp} {y : Option NumberedExp} → NumbersMaybe site x y → y ≡ number_maybe site x
only_maybe NumbersMaybe.none = refl
only_maybe (NumbersMaybe.some x) = ap Some (only_exp x)

-- ---- statements

-- lists of ranges are told apart by the rows that they make
abbrev range_list : NumberedRanges → List NumberedRange
range_list n.NoRange = []
range_list (n.MoreRange r rest) = r ∷ range_list rest

listed_ranges : (rs : List NumberedRange) → range_list (numbered_ranges rs) ≡ rs
listed_ranges [] = refl
listed_ranges (r ∷ rs) = ap (λ xs. r ∷ xs) (listed_ranges rs)

only_dims : {site : Site} {d : DimsTree} {e : NumberedDims} → NumbersDims site d e → e ≡ number_dims site d
only_dims (NumbersDims.domain x) = ap m.Domain (only_exp x)
only_dims {site} (NumbersDims.ranges {rs = rs} {qs = qs} ranges) =
    let rows : numbered_ranges qs ≡ numbered_ranges (map (number_range site) rs) = only_ranges ranges ∙ number_ranges_list site rs in
    ap m.Ranges (sym (listed_ranges qs) ∙ ap range_list rows ∙ listed_ranges (map (number_range site) rs))

only_init : {site : Site} {value : InitTree} {v : NumberedInit} → NumbersInit site value v → v ≡ number_init site value
only_init (NumbersInit.value x) = ap m.Value (only_exp x)
only_init NumbersInit.new_region = refl
only_init (NumbersInit.new_object {at = at} {class = number} region class) = rw class (ap (λ z. m.NewObject at z number) (only_maybe region))
only_init (NumbersInit.new_grid {at = at} {dims_at = dims_at} region element dims) =
    let a = only_maybe region in let b = only_type element in let c = only_dims dims in λ i. m.NewGrid at (a i) (b i) dims_at (c i)
only_init (NumbersInit.broadcast {at = at} x y) = let a = only_exp x in let b = only_exp y in λ i. m.Broadcast at (a i) (b i)

only_print : {site : Site} {what : PrintTree} {w : NumberedPrint} → NumbersPrint site what w → w ≡ number_print site what
only_print NumbersPrint.nothing = refl
only_print NumbersPrint.text = refl
only_print (NumbersPrint.expression x) = ap m.Expression (only_exp x)
only_print {site} (NumbersPrint.text_and_expression x) = ap (m.TextAndExpression site.literals) (only_exp x)

mutual
  pub only_stm : {site : Site} {x : Stm} {y : NumberedStm} → NumbersStm site x y → y ≡ number_stm site x
  only_stm NumbersStm.empty = refl
  only_stm (NumbersStm.declare {site = site} {at = at} ty fresh room v) = let a = only_type ty in let b = only_init v in λ i. m.Declare at (a i) site.variables (b i)
  only_stm (NumbersStm.assign {at = at} target v) = let a = only_exp target in let b = only_init v in λ i. m.Assign at (a i) (b i)
  only_stm (NumbersStm.update {at = at} {op = op} target x) = let a = only_exp target in let b = only_exp x in λ i. m.Update at op (a i) (b i)
  only_stm (NumbersStm.step {at = at} {op = op} target) = ap (m.Step at op) (only_exp target)
  only_stm (NumbersStm.call x) = ap m.Call (only_exp x)
  only_stm (NumbersStm.print {at = at} what) = ap (m.Print at) (only_print what)
  only_stm NumbersStm.barrier = refl
  only_stm NumbersStm.break = refl
  only_stm NumbersStm.continue = refl
  only_stm (NumbersStm.return {at = at} value) = ap (m.Return at) (only_maybe value)
  only_stm (NumbersStm.block body) = ap m.Block (only_stms body)
  only_stm (NumbersStm.if_alone {at = at} d x) = let a = only_exp d in let b = only_stm x in λ i. m.If at (a i) (b i)
  only_stm (NumbersStm.if_else {at = at} d x y) = let a = only_exp d in let b = only_stm x in let c = only_stm y in λ i. m.IfElse at (a i) (b i) (c i)
  only_stm (NumbersStm.while {at = at} d x) = let a = only_exp d in let b = only_stm x in λ i. m.While at (a i) (b i)
  only_stm (NumbersStm.for {at = at} first d update body) =
      let a = only_maybe_stm first in let b = only_maybe d in let c = only_maybe_stm update in let e = only_stm body in λ i. m.For at (a i) (b i) (c i) (e i)
  only_stm (NumbersStm.foreach {site = site} {at = at} fresh room d x) = let a = only_exp d in let b = only_stm x in λ i. m.Foreach at site.variables (a i) (b i)

  pub only_maybe_stm : {site : Site} {x : MaybeStm} {y : MaybeNumbered} → NumbersMaybeStm site x y → y ≡ number_maybe_stm site x
  only_maybe_stm NumbersMaybeStm.no_stm = refl
  only_maybe_stm (NumbersMaybeStm.some_stm x) = ap m.SomeStm (only_stm x)

  pub only_stms : {site : Site} {xs : Stms} {ys : NumberedStms} → NumbersStms site xs ys → ys ≡ number_stms site xs
  only_stms NumbersStms.nil = refl
  only_stms (NumbersStms.cons x rest) = let a = only_stm x in let b = only_stms rest in λ i. m.Cons (a i) (b i)

-- ---- classes

abbrev stm_list : NumberedStms → List NumberedStm
stm_list m.Nil = []
stm_list (m.Cons x rest) = x ∷ stm_list rest

listed_stms : (xs : List NumberedStm) → stm_list (numbered_stms xs) ≡ xs
listed_stms [] = refl
listed_stms (x ∷ xs) = ap (λ ys. x ∷ ys) (listed_stms xs)

only_fields : {text : TextTree} {class number : ℕ} {fs : List FieldTree} {gs : List NumberedField} → NumbersFields text class number fs gs → gs ≡ number_fields text fs
only_fields NumbersFields.none = refl
only_fields {text} (NumbersFields.more {f = f} once ty rest) =
    let a = only_type ty in let b = only_fields rest in λ i. record { modifiers = f.modifiers; ty = a i; name = name_number text f.name } ∷ b i

only_classes : {text : TextTree} {number : ℕ} {cs : List ClassTree} {ds : List NumberedClass} → NumbersClasses text number cs ds → ds ≡ number_classes text cs
only_classes NumbersClasses.none = refl
only_classes (NumbersClasses.more {c = c} once fields rest) = let a = only_fields fields in let b = only_classes rest in λ i. record { modifiers = c.modifiers; fields = a i } ∷ b i

only_result : {text : TextTree} {r : ResultTree} {s : NumberedResult} → NumbersResult text r s → s ≡ number_result text r
only_result NumbersResult.void = refl
only_result (NumbersResult.typed ty) = ap p.Typed (only_type ty)

-- the sites of parameters are of one text
only_param_list : (text : TextTree) {site : Site} {params : List ParamTree} {ys : List NumberedParam} → site.text ≡ text → NumbersParamList site params ys → ys ≡ number_param_list text params
only_param_list text is NumbersParamList.none = refl
only_param_list text is (NumbersParamList.more {param = param} ty fresh room rest) =
    let a = only_type ty ∙ ap (λ t. numbered_type t param.ty) is in let b = only_param_list text is rest in λ i. record { place = param.place; ty = a i } ∷ b i

only_params : {site : Site} {params : ParamsTree} {q : NumberedParams} → NumbersParams site params q → q ≡ number_params site.text params
only_params NumbersParams.words = refl
only_params {site} (NumbersParams.params params) = ap p.Params (only_param_list site.text refl params)

only_method : {site : Site} {own : OwnMethod} {method : NumberedMethod} → NumbersMethod site own method → method ≡ number_method site own
only_method {site} {own} (NumbersMethod.method {body = body} result ps statements) =
    let a = only_result result in
    let b = only_params ps in
    let rows : numbered_stms body ≡ numbered_stms (number_list (body_site site own.method.params) own.method.body) = only_stms statements
    ∙ number_stms_list (body_site site own.method.params) own.method.body in
    let c : body ≡ number_list (body_site site own.method.params) own.method.body = sym (listed_stms body) ∙ ap stm_list rows ∙ listed_stms _ in
    λ i. record {
      class = own.class;
      modifiers = own.method.modifiers;
      is_single = is_single own.method.modifiers;
      result = a i;
      place = own.method.place;
      name = name_number site.text own.method.name;
      params = b i;
      body = c i;
      end = own.method.end;
    }

only_methods : {text : TextTree} {number before : ℕ} {ms : List OwnMethod} {ns : List NumberedMethod} → NumbersMethods text number before ms ns → ns ≡ number_methods text before ms
only_methods NumbersMethods.none = refl
only_methods (NumbersMethods.more once m rest) = let a = only_method m in let b = only_methods rest in λ i. a i ∷ b i

pub main_is : {text : TextTree} {number : ℕ} → HasMain text number → main_method text ≡ Some number
main_is {text} main = ap (λ c. option_and_then (λ (class : ℕ). method_named text class (codes "main")) c) main.is_class ∙ main.is_method

pub only_program : {text : TextTree} {program : ProgramView} → Numbers text program → program ≡ number_program text
only_program {text} numbers =
    let a = only_classes numbers.classes in
    let b = only_methods numbers.methods in
    let c = sym (ap (λ o. unwrap_or o 0) (main_is numbers.main)) in
    let d = numbers.names in
    let e = numbers.literals in
    λ i. record { classes = a i; methods = b i; main = c i; names = d i; literals = e i }
