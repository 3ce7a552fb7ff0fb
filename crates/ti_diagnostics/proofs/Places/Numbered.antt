-- Each position of a resolved program is one of its tree.
use Rattle.std.proofs.Common.{ℕ, ◌+◌, List, [], ◌∷◌, Option}
use Rattle.ti_base.specs.declared.place.Place.{Place}
use Rattle.ti_syntax.specs.Trees.Types.{TypeTree}
use Rattle.ti_syntax.specs.Trees.Expressions.{Exp, Exps, RangeTree, RangeTrees}
use Rattle.ti_syntax.specs.Trees.Statements.{DimsTree, InitTree, PrintTree, Stm, MaybeStm, Stms}
use Rattle.ti_syntax.specs.Trees.Classes.{FieldTree, ParamTree, ParamsTree, ResultTree, MemberTree}
use Rattle.ti_syntax.specs.Trees.Classes.{FieldMember, MethodMember, ClassTree, TextTree}
use Rattle.ti_lang.specs.Program.Types.{NumberedType}
use Rattle.ti_lang.specs.Program.Expressions.{NumberedExp, NumberedExps, NumberedRange}
use Rattle.ti_lang.specs.Program.Expressions.{NumberedRanges}
use Rattle.ti_lang.specs.Program.Statements.{NumberedDims, NumberedInit, NumberedPrint, NumberedStm}
use Rattle.ti_lang.specs.Program.Statements.{MaybeNumbered, NumberedStms}
use Rattle.ti_lang.specs.Program.Classes.{NumberedField, NumberedClass, NumberedParam}
use Rattle.ti_lang.specs.Program.Classes.{NumberedParams, NumberedResult, NumberedMethod}
use Rattle.ti_lang.specs.Program.Classes.{ProgramView}
use Rattle.ti_lang.specs.Members.{fields_in, OwnMethod, methods_in, methods_from, methods_of}
use Rattle.ti_lang.specs.Scopes.{Site}
use Rattle.ti_lang.specs.Numbering as number
use Rattle.ti_lang.specs.Numbering.{NumbersType, NumbersExp, NumbersExps, NumbersRange}
use Rattle.ti_lang.specs.Numbering.{NumbersRanges, NumbersMaybe}
use Rattle.ti_lang.specs.Numbering.{NumbersDims, NumbersInit, NumbersPrint, NumbersStm}
use Rattle.ti_lang.specs.Numbering.{NumbersMaybeStm, NumbersStms}
use Rattle.ti_lang.specs.Numbering.{NumbersFields, NumbersClasses, NumbersResult, NumbersParamList}
use Rattle.ti_lang.specs.Numbering.{NumbersParams, NumbersMethod, NumbersMethods, Numbers}
use Rattle.ti_diagnostics.proofs.Places.Elements.{HoldsOfEach, nil, cons, both}
use Rattle.ti_diagnostics.proofs.Places.Trees as tree
use Rattle.ti_diagnostics.proofs.Places.Programs.{TypePlaced, ExpPlaced, ExpsPlaced, RangePlaced}
use Rattle.ti_diagnostics.proofs.Places.Programs.{RangesPlaced, OptionPlaced}
use Rattle.ti_diagnostics.proofs.Places.Programs.{DimsPlaced, InitPlaced, PrintPlaced, StmPlaced}
use Rattle.ti_diagnostics.proofs.Places.Programs.{MaybePlaced, StmsPlaced}
use Rattle.ti_diagnostics.proofs.Places.Programs.{FieldPlaced, ClassPlaced, ParamPlaced}
use Rattle.ti_diagnostics.proofs.Places.Programs.{ParamsPlaced, ResultPlaced, MethodPlaced}
use Rattle.ti_diagnostics.proofs.Places.Programs.{ProgramPlaced}

-- ---- the members of a tree

abbrev pub OwnPlaced : (Place → Type 0) → OwnMethod → Type 0
OwnPlaced P own = tree.MethodPlaced P own.method

pub fields_placed : (P : Place → Type 0) (ms : List MemberTree)
    → HoldsOfEach (tree.MemberPlaced P) ms
    → HoldsOfEach (tree.FieldPlaced P) (fields_in ms)
fields_placed P [] h = nil
fields_placed P (FieldMember f ∷ ms) (cons h rest) = cons h (fields_placed P ms rest)
fields_placed P (MethodMember m ∷ ms) (cons h rest) = fields_placed P ms rest

own_methods_placed : (P : Place → Type 0) (class : ℕ) (ms : List MemberTree)
    → HoldsOfEach (tree.MemberPlaced P) ms
    → HoldsOfEach (OwnPlaced P) (methods_in class ms)
own_methods_placed P class [] h = nil
own_methods_placed P class (FieldMember f ∷ ms) (cons h rest) = own_methods_placed P class ms rest
own_methods_placed P class (MethodMember m ∷ ms) (cons h rest) =
    cons h (own_methods_placed P class ms rest)

methods_placed_from : (P : Place → Type 0) (class : ℕ) (cs : List ClassTree) → tree.TextPlaced P cs
    → HoldsOfEach (OwnPlaced P) (methods_from class cs)
methods_placed_from P class [] h = nil
methods_placed_from P class (c ∷ cs) (cons h rest) =
    both (own_methods_placed P class c.members h.3) (methods_placed_from P (class + 1) cs rest)

pub methods_placed : (P : Place → Type 0) (text : TextTree) → tree.TextPlaced P text
    → HoldsOfEach (OwnPlaced P) (methods_of text)
methods_placed P text h = methods_placed_from P 0 text h

module _ (P : Place → Type 0) where
  -- ---- types and expressions

  type_numbered : (text : TextTree) (t : TypeTree) (u : NumberedType) → NumbersType text t u
      → tree.TypePlaced P t → TypePlaced P u
  type_numbered text t u (number.known i) h = (h.1, h.2)

  mutual
    exp_numbered : (site : Site) (a : Exp) (b : NumberedExp) → NumbersExp site a b
        → tree.ExpPlaced P a → ExpPlaced P b
    exp_numbered site a b number.int h = h
    exp_numbered site a b number.long h = h
    exp_numbered site a b number.truth h = h
    exp_numbered site a b number.null h = h
    exp_numbered site a b (number.this i) h = h
    exp_numbered site a b (number.variable i) h = h
    exp_numbered site a b (number.own_field i j) h = h
    exp_numbered site a b (number.call i j w) h = (h.0, exps_numbered _ _ _ w h.1)
    exp_numbered site a b (number.own_call i j w) h = (h.0, exps_numbered _ _ _ w h.1)
    exp_numbered site a b number.this_proc h = h
    exp_numbered site a b number.num_procs h = h
    exp_numbered site a b (number.point w) h = (h.0, exps_numbered _ _ _ w h.1)
    exp_numbered site a b (number.rect w) h = (h.0, ranges_numbered _ _ _ w h.1)
    exp_numbered site a b (number.unary w) h = (h.0, exp_numbered _ _ _ w h.1)
    exp_numbered site a b (number.binary v w) h =
        (h.0, exp_numbered _ _ _ v h.1, exp_numbered _ _ _ w h.2)
    exp_numbered site a b (number.cast t w) h =
        (h.0, type_numbered _ _ _ t h.1, exp_numbered _ _ _ w h.2)
    exp_numbered site a b (number.select i w) h = (h.0, exp_numbered _ _ _ w h.1)
    exp_numbered site a b (number.member i v w) h =
        (h.0, exp_numbered _ _ _ v h.1, exps_numbered _ _ _ w h.2)
    exp_numbered site a b (number.class_call i j w) h = (h.0, exps_numbered _ _ _ w h.2)
    exp_numbered site a b (number.index v w) h =
        (h.0, exp_numbered _ _ _ v h.1, exps_numbered _ _ _ w h.2)

    exps_numbered : (site : Site) (xs : Exps) (ys : NumberedExps) → NumbersExps site xs ys
        → tree.ExpsPlaced P xs → ExpsPlaced P ys
    exps_numbered site xs ys number.no_exps h = tt
    exps_numbered site xs ys (number.more_exps w rest) h =
        (exp_numbered _ _ _ w h.0, exps_numbered _ _ _ rest h.1)

    range_numbered : (site : Site) (r : RangeTree) (q : NumberedRange) → NumbersRange site r q
        → tree.RangePlaced P r → RangePlaced P q
    range_numbered site r q (number.plain v w) h =
        (exp_numbered _ _ _ v h.0, exp_numbered _ _ _ w h.1)
    range_numbered site r q (number.stepped v w z) h =
        (exp_numbered _ _ _ v h.0, exp_numbered _ _ _ w h.1, exp_numbered _ _ _ z h.2)

    ranges_numbered : (site : Site) (rs : RangeTrees) (qs : NumberedRanges)
        → NumbersRanges site rs qs → tree.RangesPlaced P rs → RangesPlaced P qs
    ranges_numbered site rs qs number.no_ranges h = tt
    ranges_numbered site rs qs (number.more_ranges w rest) h =
        (range_numbered _ _ _ w h.0, ranges_numbered _ _ _ rest h.1)

  option_numbered : (site : Site) (a : Option Exp) (b : Option NumberedExp) → NumbersMaybe site a b
      → tree.OptionPlaced P a → OptionPlaced P b
  option_numbered site a b number.none h = tt
  option_numbered site a b (number.some w) h = exp_numbered _ _ _ w h

  -- ---- statements

  dims_numbered : (site : Site) (a : DimsTree) (b : NumberedDims) → NumbersDims site a b
      → tree.DimsPlaced P a → DimsPlaced P b
  dims_numbered site a b (number.domain w) h = exp_numbered _ _ _ w h
  dims_numbered site a b (number.ranges w) h = ranges_numbered _ _ _ w h

  init_numbered : (site : Site) (a : InitTree) (b : NumberedInit) → NumbersInit site a b
      → tree.InitPlaced P a → InitPlaced P b
  init_numbered site a b (number.value w) h = exp_numbered _ _ _ w h
  init_numbered site a b number.new_region h = h
  init_numbered site a b (number.new_object w i) h = (h.0, option_numbered _ _ _ w h.1)
  init_numbered site a b (number.new_grid w t d) h =
      (h.0, option_numbered _ _ _ w h.1, type_numbered _ _ _ t h.2, h.3, dims_numbered _ _ _ d h.4)
  init_numbered site a b (number.broadcast v w) h =
      (h.0, exp_numbered _ _ _ v h.1, exp_numbered _ _ _ w h.2)

  print_numbered : (site : Site) (a : PrintTree) (b : NumberedPrint) → NumbersPrint site a b
      → tree.PrintPlaced P a → PrintPlaced P b
  print_numbered site a b number.nothing h = tt
  print_numbered site a b number.text h = tt
  print_numbered site a b (number.expression w) h = exp_numbered _ _ _ w h
  print_numbered site a b (number.text_and_expression w) h = exp_numbered _ _ _ w h

  mutual
    stm_numbered : (site : Site) (a : Stm) (b : NumberedStm) → NumbersStm site a b
        → tree.StmPlaced P a → StmPlaced P b
    stm_numbered site a b number.empty h = tt
    stm_numbered site a b (number.declare t i j w) h =
        (h.0, type_numbered _ _ _ t h.1, init_numbered _ _ _ w h.2)
    stm_numbered site a b (number.assign v w) h =
        (h.0, exp_numbered _ _ _ v h.1, init_numbered _ _ _ w h.2)
    stm_numbered site a b (number.update v w) h =
        (h.0, exp_numbered _ _ _ v h.1, exp_numbered _ _ _ w h.2)
    stm_numbered site a b (number.step w) h = (h.0, exp_numbered _ _ _ w h.1)
    stm_numbered site a b (number.call w) h = exp_numbered _ _ _ w h
    stm_numbered site a b (number.print w) h = (h.0, print_numbered _ _ _ w h.1)
    stm_numbered site a b number.barrier h = h
    stm_numbered site a b number.break h = h
    stm_numbered site a b number.continue h = h
    stm_numbered site a b (number.return w) h = (h.0, option_numbered _ _ _ w h.1)
    stm_numbered site a b (number.block w) h = stms_numbered _ _ _ w h
    stm_numbered site a b (number.if_alone v w) h =
        (h.0, exp_numbered _ _ _ v h.1, stm_numbered _ _ _ w h.2)
    stm_numbered site a b (number.if_else v w z) h =
        (h.0, exp_numbered _ _ _ v h.1, stm_numbered _ _ _ w h.2, stm_numbered _ _ _ z h.3)
    stm_numbered site a b (number.while v w) h =
        (h.0, exp_numbered _ _ _ v h.1, stm_numbered _ _ _ w h.2)
    stm_numbered site a b (number.for u v w z) h = (
      h.0,
      maybe_numbered _ _ _ u h.1,
      option_numbered _ _ _ v h.2,
      maybe_numbered _ _ _ w h.3,
      stm_numbered _ _ _ z h.4,
    )
    stm_numbered site a b (number.foreach i j v w) h =
        (h.0, exp_numbered _ _ _ v h.2, stm_numbered _ _ _ w h.3)

    maybe_numbered : (site : Site) (a : MaybeStm) (b : MaybeNumbered) → NumbersMaybeStm site a b
        → tree.MaybePlaced P a → MaybePlaced P b
    maybe_numbered site a b number.no_stm h = tt
    maybe_numbered site a b (number.some_stm w) h = stm_numbered _ _ _ w h

    stms_numbered : (site : Site) (xs : Stms) (ys : NumberedStms) → NumbersStms site xs ys
        → tree.StmsPlaced P xs → StmsPlaced P ys
    stms_numbered site xs ys number.nil h = tt
    stms_numbered site xs ys (number.cons w rest) h =
        (stm_numbered _ _ _ w h.0, stms_numbered _ _ _ rest h.1)

  -- ---- classes

  fields_numbered : (text : TextTree) (class n : ℕ) (fs : List FieldTree) (gs : List NumberedField)
      → NumbersFields text class n fs gs
      → HoldsOfEach (tree.FieldPlaced P) fs → HoldsOfEach (FieldPlaced P) gs
  fields_numbered text class n fs gs number.none h = nil
  fields_numbered text class n fs gs (number.more i t rest) (cons h hs) =
      cons (h.0, type_numbered _ _ _ t h.1) (fields_numbered _ _ _ _ _ rest hs)

  classes_numbered : (text : TextTree) (n : ℕ) (cs : List ClassTree) (ds : List NumberedClass)
      → NumbersClasses text n cs ds
      → tree.TextPlaced P cs → HoldsOfEach (ClassPlaced P) ds
  classes_numbered text n cs ds number.none h = nil
  classes_numbered text n cs ds (number.more {c = c} i w rest) (cons h hs) =
      cons (h.0, fields_numbered _ _ _ _ _ w (fields_placed P c.members h.3))
      (classes_numbered _ _ _ _ rest hs)

  result_numbered : (text : TextTree) (a : ResultTree) (b : NumberedResult) → NumbersResult text a b
      → tree.ResultPlaced P a → ResultPlaced P b
  result_numbered text a b number.void h = tt
  result_numbered text a b (number.typed t) h = type_numbered _ _ _ t h

  param_list_numbered : (site : Site) (xs : List ParamTree) (ys : List NumberedParam)
      → NumbersParamList site xs ys
      → HoldsOfEach (tree.ParamPlaced P) xs → HoldsOfEach (ParamPlaced P) ys
  param_list_numbered site xs ys number.none h = nil
  param_list_numbered site xs ys (number.more t i j rest) (cons h hs) =
      cons (h.0, type_numbered _ _ _ t h.1) (param_list_numbered _ _ _ rest hs)

  params_numbered : (site : Site) (a : ParamsTree) (b : NumberedParams) → NumbersParams site a b
      → tree.ParamsPlaced P a → ParamsPlaced P b
  params_numbered site a b number.words h = tt
  params_numbered site a b (number.params w) h = param_list_numbered _ _ _ w h

  method_numbered : (site : Site) (own : OwnMethod) (m : NumberedMethod) → NumbersMethod site own m
      → OwnPlaced P own → MethodPlaced P m
  method_numbered site own m (number.method r w v) h =
      let params = params_numbered _ _ _ w h.3 in
      (h.0, result_numbered _ _ _ r h.1, h.2, params, stms_numbered _ _ _ v h.4, h.5)

  methods_numbered : (text : TextTree) (n before : ℕ) (owns : List OwnMethod)
      (ms : List NumberedMethod)
      → NumbersMethods text n before owns ms
      → HoldsOfEach (OwnPlaced P) owns → HoldsOfEach (MethodPlaced P) ms
  methods_numbered text n before owns ms number.none h = nil
  methods_numbered text n before owns ms (number.more i w rest) (cons h hs) =
      cons (method_numbered _ _ _ w h) (methods_numbered _ _ _ _ _ rest hs)

  -- where each position of a tree satisfies the predicate, so does each of its resolved program
  pub program_placed : (text : TextTree) (p : ProgramView) → Numbers text p → tree.TextPlaced P text
      → ProgramPlaced P p
  program_placed text p w h = (
    classes_numbered text 0 text p.classes w.classes h,
    methods_numbered text 0 0 (methods_of text) p.methods w.methods (methods_placed P text h),
  )
