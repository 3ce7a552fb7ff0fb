-- For proofs only: a model of name resolution, as a function. A name that can't be resolved becomes a placeholder.
use Rattle.std.specs.Prelude.{ℕ, ◌+◌, if◌then◌else◌, List, [], ◌∷◌, map, length, Option, Some, None}
use Rattle.std.specs.Option.{unwrap_or}
use Rattle.ti_base.specs.declared.place.Place.{Place}
use Rattle.ti_syntax.specs.Trees.Views.{maybe_of}
use Rattle.ti_syntax.specs.Trees.Expressions.{Exp, Exps, RangeTree, RangeTrees}
use Rattle.ti_syntax.specs.Trees.Expressions as t
use Rattle.ti_syntax.specs.Trees.Statements.{DimsTree, InitTree, PrintTree, Stm, MaybeStm, Stms, stms}
use Rattle.ti_syntax.specs.Trees.Statements as s
use Rattle.ti_syntax.specs.Trees.Classes.{FieldTree, ParamTree, ParamsTree, ResultTree, ClassTree, TextTree}
use Rattle.ti_syntax.specs.Trees.Classes as c
use Rattle.ti_lang.specs.Program.Types.{VariableUse, Foreach}
use Rattle.ti_lang.specs.Program.Expressions.{NumberedExp, NumberedExps, NumberedRange, NumberedRanges}
use Rattle.ti_lang.specs.Program.Expressions as n
use Rattle.ti_lang.specs.Program.Statements.{NumberedDims, NumberedInit, NumberedPrint, NumberedStm, MaybeNumbered, NumberedStms}
use Rattle.ti_lang.specs.Program.Statements as m
use Rattle.ti_lang.specs.Program.Classes.{NumberedField, NumberedClass, NumberedParam, NumberedParams, NumberedResult, NumberedMethod, ProgramView}
use Rattle.ti_lang.specs.Program.Classes as p
use Rattle.ti_lang.specs.Members.{class_named, fields_in, OwnMethod, methods_of, is_single, is_static_method, names_of, name_number}
use Rattle.ti_lang.specs.Scopes.{numbered_type, Site, declares, literals_in, literals_of_text, past, past_maybe, site_after, behind_maybe, method_site, body_site, variable_named, own_field_named, own_method_named, static_method_named, class_before_dot}
use Rattle.ti_rules.specs.MainForm.{main_method}

-- ---- expressions

abbrev pub name_expr : Place → Option VariableUse → Option ℕ → NumberedExp
name_expr at (Some v) field = n.Variable at v
name_expr at None (Some field) = n.OwnField at field
name_expr at None None = n.Null at

-- a call of a method of the enclosing class
abbrev pub method_call : TextTree → Place → Option ℕ → NumberedExps → NumberedExp
method_call text at None args = n.Null at
method_call text at (Some method) args = if is_static_method text method then n.Call at method args else n.OwnCall at method args

-- a static call by class name
abbrev pub static_call : Place → Option ℕ → NumberedExps → NumberedExp
static_call at None args = n.Null at
static_call at (Some method) args = n.Call at method args

abbrev pub select_expr : Site → Place → Option ℕ → NumberedExp → List ℕ → NumberedExp
select_expr site at None x name = n.Select at x (name_number site.text name)
select_expr site at (Some class) x name = n.Null at

abbrev pub member_call : Site → Place → Option ℕ → NumberedExp → List ℕ → NumberedExps → NumberedExp
member_call site at None x name args = n.Member at x (name_number site.text name) args
member_call site at (Some class) x name args = static_call at (static_method_named site class name) args

abbrev mutual
  pub number_exp : Site → Exp → NumberedExp
  number_exp site (t.Int at i) = n.Int at i
  number_exp site (t.Long at i) = n.Long at i
  number_exp site (t.Truth at b) = n.Truth at b
  number_exp site (t.Null at) = n.Null at
  number_exp site (t.This at) = n.This at
  number_exp site (t.Name at name) = name_expr at (variable_named site name) (own_field_named site name)
  number_exp site (t.Call at name args) = method_call site.text at (own_method_named site name) (number_exps site args)
  number_exp site (t.ThisProc at) = n.ThisProc at
  number_exp site (t.NumProcs at) = n.NumProcs at
  number_exp site (t.Point at parts) = n.Point at (number_exps site parts)
  number_exp site (t.Rect at ranges) = n.Rect at (number_ranges site ranges)
  number_exp site (t.Unary at op x) = n.Unary at op (number_exp site x)
  number_exp site (t.Binary at op x y) = n.Binary at op (number_exp site x) (number_exp site y)
  number_exp site (t.Cast at to x) = n.Cast at (numbered_type site.text to) (number_exp site x)
  number_exp site (t.Select at x name) = select_expr site at (class_before_dot site x) (number_exp site x) name
  number_exp site (t.Member at x name args) =
      member_call site at (class_before_dot site x) (number_exp site x) name (number_exps site args)
  number_exp site (t.Index at x parts) = n.Index at (number_exp site x) (number_exps site parts)

  pub number_exps : Site → Exps → NumberedExps
  number_exps site t.NoExp = n.NoExp
  number_exps site (t.MoreExp x rest) = n.MoreExp (number_exp site x) (number_exps site rest)

  pub number_range : Site → RangeTree → NumberedRange
  number_range site (t.Plain low high) = n.Plain (number_exp site low) (number_exp site high)
  number_range site (t.Stepped low high step) = n.Stepped (number_exp site low) (number_exp site high) (number_exp site step)

  pub number_ranges : Site → RangeTrees → NumberedRanges
  number_ranges site t.NoRange = n.NoRange
  number_ranges site (t.MoreRange r rest) = n.MoreRange (number_range site r) (number_ranges site rest)

abbrev pub number_maybe : Site → Option Exp → Option NumberedExp
number_maybe site x = maybe_of (number_exp site) x

-- ---- statements

abbrev pub number_dims : Site → DimsTree → NumberedDims
number_dims site (s.Domain x) = m.Domain (number_exp site x)
number_dims site (s.Ranges ranges) = m.Ranges (map (number_range site) ranges)

abbrev pub number_init : Site → InitTree → NumberedInit
number_init site (s.Value x) = m.Value (number_exp site x)
number_init site (s.NewRegion at) = m.NewRegion at
number_init site (s.NewObject at region name_at name) = m.NewObject at (number_maybe site region) (unwrap_or (class_named site.text name) 0)
number_init site (s.NewGrid at region element dims_at dims) =
    m.NewGrid at (number_maybe site region) (numbered_type site.text element) dims_at (number_dims site dims)
number_init site (s.Broadcast at x root) = m.Broadcast at (number_exp site x) (number_exp site root)

abbrev pub number_print : Site → PrintTree → NumberedPrint
number_print site s.Nothing = m.Nothing
number_print site (s.Text text) = m.Text site.literals
number_print site (s.Expression x) = m.Expression (number_exp site x)
number_print site (s.TextAndExpression text x) = m.TextAndExpression site.literals (number_exp site x)

abbrev mutual
  pub number_stm : Site → Stm → NumberedStm
  number_stm site s.Empty = m.Empty
  number_stm site (s.Declare at ty name value) = m.Declare at (numbered_type site.text ty) site.variables (number_init site value)
  number_stm site (s.Assign at target value) = m.Assign at (number_exp site target) (number_init site value)
  number_stm site (s.Update at op target x) = m.Update at op (number_exp site target) (number_exp site x)
  number_stm site (s.Step at op target) = m.Step at op (number_exp site target)
  number_stm site (s.Call x) = m.Call (number_exp site x)
  number_stm site (s.Print at what) = m.Print at (number_print site what)
  number_stm site (s.Barrier at) = m.Barrier at
  number_stm site (s.Break at) = m.Break at
  number_stm site (s.Continue at) = m.Continue at
  number_stm site (s.Return at value) = m.Return at (number_maybe site value)
  number_stm site (s.Block body) = m.Block (number_stms site body)
  number_stm site (s.If at c x) = m.If at (number_exp site c) (number_stm site x)
  number_stm site (s.IfElse at c x y) = m.IfElse at (number_exp site c) (number_stm site x) (number_stm (past site x) y)
  number_stm site (s.While at c body) = m.While at (number_exp site c) (number_stm site body)
  number_stm site (s.For at first c update body) =
      let inside = behind_maybe site first in
      m.For at (number_maybe_stm site first) (number_maybe inside c) (number_maybe_stm inside update)
      (number_stm (past_maybe inside update) body)
  number_stm site (s.Foreach at name_at name domain body) =
      m.Foreach at site.variables (number_exp site domain) (number_stm (declares site name Foreach) body)

  pub number_maybe_stm : Site → MaybeStm → MaybeNumbered
  number_maybe_stm site s.NoStm = m.NoStm
  number_maybe_stm site (s.SomeStm x) = m.SomeStm (number_stm site x)

  pub number_stms : Site → Stms → NumberedStms
  number_stms site s.Nil = m.Nil
  number_stms site (s.Cons x rest) = m.Cons (number_stm site x) (number_stms (site_after site x) rest)

-- the statements of a list, each in the context that the ones before it leave
abbrev pub number_list : Site → List Stm → List NumberedStm
number_list site [] = []
number_list site (x ∷ rest) = number_stm site x ∷ number_list (site_after site x) rest

-- ---- classes

abbrev pub number_field : TextTree → FieldTree → NumberedField
number_field text f = record { modifiers = f.modifiers; ty = numbered_type text f.ty; name = name_number text f.name }

abbrev pub number_fields : TextTree → List FieldTree → List NumberedField
number_fields text fs = map (number_field text) fs

abbrev pub number_class : TextTree → ClassTree → NumberedClass
number_class text c = record { modifiers = c.modifiers; fields = number_fields text (fields_in c.members) }

abbrev pub number_classes : TextTree → List ClassTree → List NumberedClass
number_classes text cs = map (number_class text) cs

abbrev pub number_result : TextTree → ResultTree → NumberedResult
number_result text (c.Void at) = p.Void
number_result text (c.Typed ty) = p.Typed (numbered_type text ty)

abbrev pub number_param : TextTree → ParamTree → NumberedParam
number_param text x = record { place = x.place; ty = numbered_type text x.ty }

abbrev pub number_param_list : TextTree → List ParamTree → List NumberedParam
number_param_list text params = map (number_param text) params

abbrev pub number_params : TextTree → ParamsTree → NumberedParams
number_params text (c.MainArgs at name) = p.MainArgs
number_params text (c.Params params) = p.Params (number_param_list text params)

abbrev pub number_method : Site → OwnMethod → NumberedMethod
number_method site own = record {
  class = own.class;
  modifiers = own.method.modifiers;
  is_single = is_single own.method.modifiers;
  result = number_result site.text own.method.result;
  place = own.method.place;
  name = name_number site.text own.method.name;
  params = number_params site.text own.method.params;
  body = number_list (body_site site own.method.params) own.method.body;
  end = own.method.end;
}

abbrev pub number_methods : TextTree → ℕ → List OwnMethod → List NumberedMethod
number_methods text before [] = []
number_methods text before (own ∷ rest) =
    number_method (method_site text own before) own ∷ number_methods text (before + length (literals_in (stms own.method.body))) rest

abbrev pub number_program : TextTree → ProgramView
number_program text = record {
  classes = number_classes text text;
  methods = number_methods text 0 (methods_of text);
  main = unwrap_or (main_method text) 0;
  names = names_of text;
  literals = literals_of_text text;
}
