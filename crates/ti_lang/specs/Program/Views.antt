-- The views of the code's syntax trees (src/program) as the data types of specifications.
use Rattle.std.specs.Prelude.{List, map}
use Rattle.std.specs.declared.vec.Vec.{Vec}
use Rattle.std.specs.declared.alloc.Global.{Global}
use Rattle.ti_base.specs.declared.place.Place.{Place}
use Rattle.ti_lang.specs.declared.program.types.Ty.{Ty}
use Rattle.ti_lang.specs.declared.program.types.Ty.TheVariants as t
use Rattle.ti_lang.specs.declared.program.types.TypeUse.{TypeUse}
use Rattle.ti_lang.specs.declared.program.types.Declared.{Declared}
use Rattle.ti_lang.specs.declared.program.types.Declared.TheVariants as declared
use Rattle.ti_lang.specs.declared.program.types.Variable.{Variable}
use Rattle.ti_lang.specs.declared.program.exprs.Expr.{Expr, Row_of-Expr, end_of-Expr, more_of-Expr, Row_of-Range, end_of-Range, more_of-Range}
use Rattle.ti_lang.specs.declared.program.exprs.Expr.TheVariants as e
use Rattle.ti_lang.specs.declared.program.exprs.Range.{Range}
use Rattle.ti_lang.specs.declared.program.exprs.Range.TheVariants as r
use Rattle.ti_lang.specs.declared.program.stmts.Dims.{Dims}
use Rattle.ti_lang.specs.declared.program.stmts.Dims.TheVariants as d
use Rattle.ti_lang.specs.declared.program.stmts.Init.{Init}
use Rattle.ti_lang.specs.declared.program.stmts.Init.TheVariants as i
use Rattle.ti_lang.specs.declared.program.stmts.Printed.{Printed}
use Rattle.ti_lang.specs.declared.program.stmts.Printed.TheVariants as p
use Rattle.ti_lang.specs.declared.program.stmts.Stmt.{Stmt, Row_of-Stmt, end_of-Stmt, more_of-Stmt, Held-Stmt-If-3, None', Some'}
use Rattle.ti_lang.specs.declared.program.stmts.Stmt.TheVariants as st
use Rattle.ti_lang.specs.declared.program.classes.Field.{Field}
use Rattle.ti_lang.specs.declared.program.classes.Class.{Class}
use Rattle.ti_lang.specs.declared.program.classes.Param.{Param}
use Rattle.ti_lang.specs.declared.program.classes.Params.{Params}
use Rattle.ti_lang.specs.declared.program.classes.Params.TheVariants as params
use Rattle.ti_lang.specs.declared.program.classes.ResultType.{ResultType}
use Rattle.ti_lang.specs.declared.program.classes.ResultType.TheVariants as result
use Rattle.ti_lang.specs.declared.program.classes.Method.{Method}
use Rattle.ti_lang.specs.declared.program.classes.ProgramData.{ProgramData}
use Rattle.ti_syntax.specs.Trees.Views.{maybe_of, grid_of}
use Rattle.ti_lang.specs.Program.Types.{ValueType, NumberedType, Declaration, VariableUse}
use Rattle.ti_lang.specs.Program.Types as types
use Rattle.ti_lang.specs.Program.Expressions.{NumberedExp, NumberedExps, NumberedRange, NumberedRanges}
use Rattle.ti_lang.specs.Program.Expressions as x
use Rattle.ti_lang.specs.Program.Statements.{NumberedDims, NumberedInit, NumberedPrint, NumberedStm, MaybeNumbered, NumberedStms}
use Rattle.ti_lang.specs.Program.Statements as s
use Rattle.ti_lang.specs.Program.Classes.{NumberedField, NumberedClass, NumberedParam, NumberedParams, NumberedResult, NumberedMethod, ProgramView}
use Rattle.ti_lang.specs.Program.Classes as c

-- ---- types

abbrev pub value_type_of : Ty → ValueType
value_type_of t.Int = types.Int
value_type_of t.Long = types.Long
value_type_of t.Bool = types.Boolean
value_type_of (t.Pt n) = types.Pt n
value_type_of (t.Rc n) = types.Rc n
value_type_of (t.Dm n) = types.Dm n
value_type_of t.Region = types.Region
value_type_of (t.Class class local) = types.Class class local
value_type_of (t.Grid' _ element dim local) = types.Grid (value_type_of element) dim local
value_type_of t.Null = types.Null
value_type_of t.Void = types.Void

abbrev pub type_use_of : TypeUse → NumberedType
type_use_of t =
    record { type = value_type_of t.ty; is_single = t.single; qualifiers = t.qualifiers.items; grids = map grid_of t.grids.items }

abbrev pub declared_of : Declared → Declaration
declared_of (declared.Typed single ty) = types.Typed single (value_type_of ty)
declared_of declared.Foreach = types.Foreach

abbrev pub variable_of : Variable → VariableUse
variable_of v = record { number = v.number; declared = declared_of v.declared }

-- ---- expressions

abbrev mutual
  pub expression_of : Expr → NumberedExp
  expression_of (e.Int at n) = x.Int at n
  expression_of (e.Long at n) = x.Long at n
  expression_of (e.Bool at b) = x.Truth at b
  expression_of (e.Null at) = x.Null at
  expression_of (e.This at) = x.This at
  expression_of (e.Variable at v) = x.Variable at (variable_of v)
  expression_of (e.OwnField at field) = x.OwnField at field
  expression_of (e.Call' at method _ args) = x.Call at method (arguments_of args)
  expression_of (e.OwnCall' at method _ args) = x.OwnCall at method (arguments_of args)
  expression_of (e.ThisProc at) = x.ThisProc at
  expression_of (e.NumProcs at) = x.NumProcs at
  expression_of (e.Point' at _ parts) = x.Point at (arguments_of parts)
  expression_of (e.Rect' at _ ranges) = x.Rect at (bounds_of ranges)
  expression_of (e.Unary' at op _ a) = x.Unary at op (expression_of a)
  expression_of (e.Binary' at op _ a _ b) = x.Binary at op (expression_of a) (expression_of b)
  expression_of (e.Cast' at to _ a) = x.Cast at (type_use_of to.value) (expression_of a)
  expression_of (e.Select' at _ a name) = x.Select at (expression_of a) name
  expression_of (e.Member' at _ a name _ args) = x.Member at (expression_of a) name (arguments_of args)
  expression_of (e.Index' at _ a _ parts) = x.Index at (expression_of a) (arguments_of parts)

  pub arguments_of : {n : _} → Row_of-Expr n → NumberedExps
  arguments_of end_of-Expr = x.NoExp
  arguments_of (more_of-Expr a rest) = x.MoreExp (expression_of a) (arguments_of rest)

  pub bound_of : Range → NumberedRange
  bound_of (r.Plain low high) = x.Plain (expression_of low) (expression_of high)
  bound_of (r.Stepped low high step) = x.Stepped (expression_of low) (expression_of high) (expression_of step)

  pub bounds_of : {n : _} → Row_of-Range n → NumberedRanges
  bounds_of end_of-Range = x.NoRange
  bounds_of (more_of-Range a rest) = x.MoreRange (bound_of a) (bounds_of rest)

abbrev pub expressions_of : Vec Expr Global → List NumberedExp
expressions_of v = map expression_of v.items

abbrev pub bound_list_of : Vec Range Global → List NumberedRange
bound_list_of v = map bound_of v.items

-- ---- statements

abbrev pub extent_of : Dims → NumberedDims
extent_of (d.Domain a) = s.Domain (expression_of a)
extent_of (d.Ranges v) = s.Ranges (bound_list_of v)

abbrev pub initial_of : Init → NumberedInit
initial_of (i.Value a) = s.Value (expression_of a)
initial_of (i.NewRegion at) = s.NewRegion at
initial_of (i.NewObject at region class) = s.NewObject at (maybe_of expression_of region) class
initial_of (i.NewGrid at region element dims_at dims) =
    s.NewGrid at (maybe_of expression_of region) (type_use_of element) dims_at (extent_of dims)
initial_of (i.Broadcast at a root) = s.Broadcast at (expression_of a) (expression_of root)

abbrev pub printed_of : Printed → NumberedPrint
printed_of p.Nothing = s.Nothing
printed_of (p.Text literal) = s.Text literal
printed_of (p.Value a) = s.Expression (expression_of a)
printed_of (p.TextAndValue literal a) = s.TextAndExpression literal (expression_of a)

abbrev mutual
  pub statement_of : Stmt → NumberedStm
  statement_of st.Empty = s.Empty
  statement_of (st.Declare at ty variable value) = s.Declare at (type_use_of ty) variable (initial_of value.value)
  statement_of (st.Assign at target value) = s.Assign at (expression_of target) (initial_of value.value)
  statement_of (st.Update at op target a) = s.Update at op (expression_of target) (expression_of a)
  statement_of (st.Step at op target) = s.Step at op (expression_of target)
  statement_of (st.Call a) = s.Call (expression_of a)
  statement_of (st.Print at what) = s.Print at (printed_of what)
  statement_of (st.Barrier at) = s.Barrier at
  statement_of (st.Break at) = s.Break at
  statement_of (st.Continue at) = s.Continue at
  statement_of (st.Return at value) = s.Return at (maybe_of expression_of value)
  statement_of (st.Block' _ body) = s.Block (statement_row_of body)
  statement_of (st.If' at c _ a b) = branches_of at (expression_of c) (statement_of a) b
  statement_of (st.While' at c _ body) = s.While at (expression_of c) (statement_of body)
  statement_of (st.For' at first c update _ body) =
      s.For at (maybe_statement_of first) (maybe_of expression_of c) (maybe_statement_of update) (statement_of body)
  statement_of (st.Foreach' at variable domain _ body) = s.Foreach at variable (expression_of domain) (statement_of body)

  pub branches_of : Place → NumberedExp → NumberedStm → Held-Stmt-If-3 → NumberedStm
  branches_of at c a None' = s.If at c a
  branches_of at c a (Some' _ b) = s.IfElse at c a (statement_of b)

  pub maybe_statement_of : Held-Stmt-If-3 → MaybeNumbered
  maybe_statement_of None' = s.NoStm
  maybe_statement_of (Some' _ a) = s.SomeStm (statement_of a)

  pub statement_row_of : {n : _} → Row_of-Stmt n → NumberedStms
  statement_row_of end_of-Stmt = s.Nil
  statement_row_of (more_of-Stmt a rest) = s.Cons (statement_of a) (statement_row_of rest)

abbrev pub statements_of : Vec Stmt Global → List NumberedStm
statements_of v = map statement_of v.items

-- ---- classes

abbrev pub numbered_field_of : Field → NumberedField
numbered_field_of f = record { modifiers = f.modifiers.items; ty = type_use_of f.ty; name = f.name }

abbrev pub numbered_class_of : Class → NumberedClass
numbered_class_of c = record { modifiers = c.modifiers.items; fields = map numbered_field_of c.fields.items }

abbrev pub numbered_param_of : Param → NumberedParam
numbered_param_of p = record { place = p.place; ty = type_use_of p.ty }

abbrev pub numbered_params_of : Params → NumberedParams
numbered_params_of params.MainArgs = c.MainArgs
numbered_params_of (params.Typed v) = c.Params (map numbered_param_of v.items)

abbrev pub numbered_result_of : ResultType → NumberedResult
numbered_result_of result.Void = c.Void
numbered_result_of (result.Typed ty) = c.Typed (type_use_of ty)

abbrev pub numbered_method_of : Method → NumberedMethod
numbered_method_of m = record {
  class = m.class;
  modifiers = m.modifiers.items;
  is_single = m.single;
  result = numbered_result_of m.result;
  place = m.place;
  name = m.name;
  params = numbered_params_of m.params;
  body = statements_of m.body;
  end = m.end;
}

abbrev pub program_of : ProgramData → ProgramView
program_of p = record {
  classes = map numbered_class_of p.classes.items;
  methods = map numbered_method_of p.methods.items;
  main = p.main;
  names = p.names.items;
  literals = p.literals.items;
}
