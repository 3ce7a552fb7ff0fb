-- The errors of a tree by the rules of names are at its positions, or at the first of the text.
use Rattle.std.proofs.Common.{ℕ, ◌+◌, true, not, List, [], ◌∷◌, length, Option, Some}
use Rattle.std.proofs.Common.{None}
use Rattle.ti_base.specs.declared.place.Place.{Place}
use Rattle.ti_base.specs.Places.{place_after}
use Rattle.ti_syntax.specs.declared.tree.types.Base.{Base}
use Rattle.ti_syntax.specs.declared.tree.types.Base.TheVariants as base
use Rattle.ti_syntax.specs.Trees.Types.{TypeTree}
use Rattle.ti_syntax.specs.Trees.Expressions.{Exp, Exps, RangeTree, RangeTrees, ranges_tree}
use Rattle.ti_syntax.specs.Trees.Expressions.{place_of_exp}
use Rattle.ti_syntax.specs.Trees.Expressions as e
use Rattle.ti_syntax.specs.Trees.Statements.{DimsTree, InitTree, PrintTree, Stm, MaybeStm, Stms}
use Rattle.ti_syntax.specs.Trees.Statements.{stms}
use Rattle.ti_syntax.specs.Trees.Statements as s
use Rattle.ti_syntax.specs.Trees.Classes.{FieldTree, ParamTree, ParamsTree, ResultTree, ClassTree}
use Rattle.ti_syntax.specs.Trees.Classes.{TextTree}
use Rattle.ti_syntax.specs.Trees.Classes as c
use Rattle.ti_lang.specs.Program.Types.{Foreach}
use Rattle.ti_lang.specs.MainForm.{has_main_form}
use Rattle.ti_lang.specs.Members.{OwnMethod, fields_in, methods_of}
use Rattle.ti_lang.specs.Scopes.{Site, class_site, declares, typed_as, literals_in, past}
use Rattle.ti_lang.specs.Scopes.{past_maybe, site_after, behind_maybe, method_site, body_site}
use Rattle.ti_lang.specs.Nodes.{Written, ClassName, FieldName, MethodName, VariableName, ClassUse}
use Rattle.ti_lang.specs.Nodes.{Expression, Node}
use Rattle.ti_lang.specs.Nodes.{base_nodes, type_nodes, exp_nodes, exps_nodes, range_nodes}
use Rattle.ti_lang.specs.Nodes.{ranges_nodes, maybe_nodes, dims_nodes, init_nodes}
use Rattle.ti_lang.specs.Nodes.{print_nodes, stm_nodes, maybe_stm_nodes, stms_nodes, fields_nodes}
use Rattle.ti_lang.specs.Nodes.{classes_nodes, result_nodes}
use Rattle.ti_lang.specs.Nodes.{param_list_nodes, params_nodes, method_nodes, methods_nodes}
use Rattle.ti_lang.specs.Nodes.{nodes_of}
use Rattle.ti_rules.specs.declared.rule.Rule.TheVariants.{N3}
use Rattle.ti_rules.specs.Refusals.{refused_if}
use Rattle.ti_rules.specs.MainForm.{main_class, main_method, form_refusals}
use Rattle.ti_rules.specs.MainForm.{words_refusals, main_refusals}
use Rattle.ti_rules.specs.BrokenNames.{expression_refusals, written_refusals, node_refusals}
use Rattle.ti_rules.specs.BrokenNames.{name_refusals}
use Rattle.ti_diagnostics.proofs.Places.Elements.{HoldsOfEach, nil, cons, both, each_of, found}
use Rattle.ti_diagnostics.proofs.Places.Elements.{either}
use Rattle.ti_diagnostics.proofs.Places.Trees.{BasePlaced, TypePlaced, ExpPlaced, ExpsPlaced}
use Rattle.ti_diagnostics.proofs.Places.Trees.{RangePlaced, RangesPlaced, OptionPlaced}
use Rattle.ti_diagnostics.proofs.Places.Trees.{DimsPlaced, InitPlaced, PrintPlaced, StmPlaced}
use Rattle.ti_diagnostics.proofs.Places.Trees.{MaybePlaced, StmsPlaced}
use Rattle.ti_diagnostics.proofs.Places.Trees.{FieldPlaced, ParamPlaced, ParamsPlaced, ResultPlaced}
use Rattle.ti_diagnostics.proofs.Places.Trees.{TextPlaced}
use Rattle.ti_diagnostics.proofs.Places.Numbered.{OwnPlaced, fields_placed, methods_placed}
use Rattle.ti_diagnostics.proofs.Places.Refused.{RefusalsPlaced, refused}

-- the position of what occurs at a node satisfies the predicate
abbrev WrittenPlaced : (Place → Type 0) → Written → Type 0
WrittenPlaced P (ClassName number class) = P class.place
WrittenPlaced P (FieldName number field) = P field.place
WrittenPlaced P (MethodName number own) = P own.method.place
WrittenPlaced P (VariableName at name) = P at
WrittenPlaced P (ClassUse at name) = P at
WrittenPlaced P (Expression a) = P (place_of_exp a)

abbrev NodesPlaced : (Place → Type 0) → List Node → Type 0
NodesPlaced P nodes = HoldsOfEach (λ (n : Node). WrittenPlaced P n.written) nodes

module _ (P : Place → Type 0) where
  -- ---- the nodes of types and expressions

  base_at : (site : Site) (b : Base) → BasePlaced P b → NodesPlaced P (base_nodes site b)
  base_at site (base.Named at name) h = cons h nil
  base_at site _ h = nil

  type_at : (site : Site) (t : TypeTree) → TypePlaced P t → NodesPlaced P (type_nodes site t)
  type_at site t h = base_at site t.base h.0

  mutual
    exp_at : (site : Site) (a : Exp) → ExpPlaced P a → NodesPlaced P (exp_nodes site a)
    exp_at site (e.This at) h = cons h nil
    exp_at site (e.Name at name) h = cons h nil
    exp_at site (e.Call at name args) h = cons h.0 (exps_at site args h.1)
    exp_at site (e.Point at parts) h = exps_at site parts h.1
    exp_at site (e.Rect at ranges) h = ranges_at site ranges h.1
    exp_at site (e.Unary at op a) h = exp_at site a h.1
    exp_at site (e.Binary at op a b) h = both (exp_at site a h.1) (exp_at site b h.2)
    exp_at site (e.Cast at to a) h = both (type_at site to h.1) (exp_at site a h.2)
    exp_at site (e.Select at a name) h = cons h.0 (either _ nil (exp_at site a h.1))
    exp_at site (e.Member at a name args) h =
        cons h.0 (both (either _ nil (exp_at site a h.1)) (exps_at site args h.2))
    exp_at site (e.Index at a parts) h = both (exp_at site a h.1) (exps_at site parts h.2)
    exp_at site _ h = nil

    exps_at : (site : Site) (xs : Exps) → ExpsPlaced P xs → NodesPlaced P (exps_nodes site xs)
    exps_at site e.NoExp h = nil
    exps_at site (e.MoreExp a rest) h = both (exp_at site a h.0) (exps_at site rest h.1)

    range_at : (site : Site) (r : RangeTree) → RangePlaced P r → NodesPlaced P (range_nodes site r)
    range_at site (e.Plain low high) h = both (exp_at site low h.0) (exp_at site high h.1)
    range_at site (e.Stepped low high step) h =
        both (both (exp_at site low h.0) (exp_at site high h.1)) (exp_at site step h.2)

    ranges_at : (site : Site) (rs : RangeTrees) → RangesPlaced P rs
        → NodesPlaced P (ranges_nodes site rs)
    ranges_at site e.NoRange h = nil
    ranges_at site (e.MoreRange r rest) h = both (range_at site r h.0) (ranges_at site rest h.1)

  option_at : (site : Site) (a : Option Exp) → OptionPlaced P a → NodesPlaced P (maybe_nodes site a)
  option_at site None h = nil
  option_at site (Some a) h = exp_at site a h

  -- ---- the nodes of statements

  dims_at : (site : Site) (d : DimsTree) → DimsPlaced P d → NodesPlaced P (dims_nodes site d)
  dims_at site (s.Domain a) h = exp_at site a h
  dims_at site (s.Ranges ranges) h = ranges_at site (ranges_tree ranges) h

  init_at : (site : Site) (v : InitTree) → InitPlaced P v → NodesPlaced P (init_nodes site v)
  init_at site (s.Value a) h = exp_at site a h
  init_at site (s.NewRegion at) h = nil
  init_at site (s.NewObject at region name_at name) h =
      both (option_at site region h.1) (cons h.2 nil)
  init_at site (s.NewGrid at region element grid_at dims) h =
      both (both (option_at site region h.1) (type_at site element h.2)) (dims_at site dims h.4)
  init_at site (s.Broadcast at a root) h = both (exp_at site a h.1) (exp_at site root h.2)

  print_at : (site : Site) (w : PrintTree) → PrintPlaced P w → NodesPlaced P (print_nodes site w)
  print_at site s.Nothing h = nil
  print_at site (s.Text text) h = nil
  print_at site (s.Expression a) h = exp_at site a h
  print_at site (s.TextAndExpression text a) h = exp_at site a h

  mutual
    stm_at : (site : Site) (x : Stm) → StmPlaced P x → NodesPlaced P (stm_nodes site x)
    stm_at site s.Empty h = nil
    stm_at site (s.Declare at type name value) h =
        both (both (type_at site type h.1) (cons h.0 nil)) (init_at site value h.2)
    stm_at site (s.Assign at target value) h =
        both (exp_at site target h.1) (init_at site value h.2)
    stm_at site (s.Update at op target a) h = both (exp_at site target h.1) (exp_at site a h.2)
    stm_at site (s.Step at op target) h = exp_at site target h.1
    stm_at site (s.Call a) h = exp_at site a h
    stm_at site (s.Print at what) h = print_at site what h.1
    stm_at site (s.Barrier at) h = nil
    stm_at site (s.Break at) h = nil
    stm_at site (s.Continue at) h = nil
    stm_at site (s.Return at value) h = option_at site value h.1
    stm_at site (s.Block body) h = stms_at site body h
    stm_at site (s.If at c x) h = both (exp_at site c h.1) (stm_at site x h.2)
    stm_at site (s.IfElse at c x y) h =
        both (both (exp_at site c h.1) (stm_at site x h.2)) (stm_at (past site x) y h.3)
    stm_at site (s.While at c body) h = both (exp_at site c h.1) (stm_at site body h.2)
    stm_at site (s.For at first c update body) h =
        let inside = behind_maybe site first in
        both (both (both (maybe_at site first h.1) (option_at inside c h.2))
        (maybe_at inside update h.3)) (stm_at (past_maybe inside update) body h.4)
    stm_at site (s.Foreach at name_at name domain body) h =
        cons h.1 (both (exp_at site domain h.2) (stm_at (declares site name Foreach) body h.3))

    maybe_at : (site : Site) (x : MaybeStm) → MaybePlaced P x
        → NodesPlaced P (maybe_stm_nodes site x)
    maybe_at site s.NoStm h = nil
    maybe_at site (s.SomeStm x) h = stm_at site x h

    stms_at : (site : Site) (xs : Stms) → StmsPlaced P xs → NodesPlaced P (stms_nodes site xs)
    stms_at site s.Nil h = nil
    stms_at site (s.Cons x rest) h = both (stm_at site x h.0) (stms_at (site_after site x) rest h.1)

  -- ---- the nodes of classes

  fields_at : (site : Site) (number : ℕ) (fs : List FieldTree) → HoldsOfEach (FieldPlaced P) fs
      → NodesPlaced P (fields_nodes site number fs)
  fields_at site number [] h = nil
  fields_at site number (f ∷ rest) (cons h hs) =
      cons h.2 (both (type_at site f.ty h.1) (fields_at site (number + 1) rest hs))

  classes_at : (text : TextTree) (number : ℕ) (cs : List ClassTree) → TextPlaced P cs
      → NodesPlaced P (classes_nodes text number cs)
  classes_at text number [] h = nil
  classes_at text number (x ∷ rest) (cons h hs) =
      let fields = fields_placed P x.members h.3 in
      cons h.2 (both (fields_at (class_site text number) 0 (fields_in x.members) fields)
      (classes_at text (number + 1) rest hs))

  result_at : (site : Site) (r : ResultTree) → ResultPlaced P r
      → NodesPlaced P (result_nodes site r)
  result_at site (c.Void at) h = nil
  result_at site (c.Typed type) h = type_at site type h

  param_list_at : (site : Site) (ps : List ParamTree) → HoldsOfEach (ParamPlaced P) ps
      → NodesPlaced P (param_list_nodes site ps)
  param_list_at site [] h = nil
  param_list_at site (p ∷ rest) (cons h hs) =
      both (both (type_at site p.ty h.1) (cons h.0 nil))
      (param_list_at (declares site p.name (typed_as site.text p.ty)) rest hs)

  params_at : (site : Site) (ps : ParamsTree) → ParamsPlaced P ps
      → NodesPlaced P (params_nodes site ps)
  params_at site (c.MainArgs at name) h = nil
  params_at site (c.Params params) h = param_list_at site params h

  method_at : (site : Site) (number : ℕ) (own : OwnMethod) → OwnPlaced P own
      → NodesPlaced P (method_nodes site number own)
  method_at site number own h =
      let m = own.method in
      cons h.2 (both (both (result_at site m.result h.1) (params_at site m.params h.3))
      (stms_at (body_site site m.params) (stms m.body) h.4))

  methods_at : (text : TextTree) (number before : ℕ) (owns : List OwnMethod)
      → HoldsOfEach (OwnPlaced P) owns → NodesPlaced P (methods_nodes text number before owns)
  methods_at text number before [] h = nil
  methods_at text number before (own ∷ rest) (cons h hs) =
      both (method_at (method_site text own before) number own h)
      (methods_at text (number + 1) (before + length (literals_in (stms own.method.body))) rest hs)

  nodes_at : (text : TextTree) → TextPlaced P text → NodesPlaced P (nodes_of text)
  nodes_at text h =
      both (classes_at text 0 text h)
      (methods_at text 0 0 (methods_of text) (methods_placed P text h))

  -- ---- the errors of nodes

  expression_placed : (site : Site) (a : Exp) → P (place_of_exp a)
      → RefusalsPlaced P (expression_refusals site a)
  expression_placed site (e.This at) h = refused P _ _ _ h
  expression_placed site (e.Name at name) h = refused P _ _ _ h
  expression_placed site (e.Call at name args) h = refused P _ _ _ h
  expression_placed site (e.Select at a name) h = refused P _ _ _ h
  expression_placed site (e.Member at a name args) h = refused P _ _ _ h
  expression_placed site _ h = nil

  written_placed : (site : Site) (w : Written) → WrittenPlaced P w
      → RefusalsPlaced P (written_refusals site w)
  written_placed site (ClassName number class) h = refused P _ _ _ h
  written_placed site (FieldName number field) h = refused P _ _ _ h
  written_placed site (MethodName number own) h = refused P _ _ _ h
  written_placed site (VariableName at name) h = both (refused P _ _ _ h) (refused P _ _ _ h)
  written_placed site (ClassUse at name) h = refused P _ _ _ h
  written_placed site (Expression a) h = expression_placed site a h

  -- ---- the errors of `main`

  form_placed : (text : TextTree) (class method : Option ℕ) → TextPlaced P text → P (place_after [])
      → RefusalsPlaced P (form_refusals text class method)
  form_placed text None method h first = cons first nil
  form_placed text (Some class) None h first =
      found (λ (x : ClassTree). refused_if true N3 x.place) class h (λ x i. cons i.2 nil)
  form_placed text (Some class) (Some method) h first =
      found
      (λ (own : OwnMethod). refused_if (not (has_main_form own.method)) N3 own.method.place)
      method (methods_placed P text h) (λ own i. refused P _ _ _ i.2)

  words_placed : (main : Option ℕ) (number : ℕ) (owns : List OwnMethod)
      → HoldsOfEach (OwnPlaced P) owns → RefusalsPlaced P (words_refusals main number owns)
  words_placed main number [] h = nil
  words_placed main number (own ∷ rest) (cons h hs) =
      both (refused P _ _ _ h.2) (words_placed main (number + 1) rest hs)

  main_placed : (text : TextTree) → TextPlaced P text → P (place_after [])
      → RefusalsPlaced P (main_refusals text)
  main_placed text h first =
      both (form_placed text (main_class text) (main_method text) h first)
      (words_placed (main_method text) 0 (methods_of text) (methods_placed P text h))

  -- those of a tree whose positions satisfy the predicate, as the first of the text does
  pub names_placed : (text : TextTree) → TextPlaced P text → P (place_after [])
      → RefusalsPlaced P (name_refusals text)
  names_placed text h first =
      both (each_of node_refusals (nodes_at text h) (λ n i. written_placed n.site n.written i))
      (main_placed text h first)
