-- The model of each tree type of src/: the functions that map program values to the trees of specs/Trees.
use Rattle.std.specs.Prelude.{List, map, Option, Some, None}
use Rattle.std.specs.declared.vec.Vec.{Vec}
use Rattle.std.specs.declared.alloc.Global.{Global}
use Rattle.ti_base.specs.declared.place.Place.{Place}
use Rattle.ti_syntax.specs.declared.tree.types.Brackets.{Brackets}
use Rattle.ti_syntax.specs.declared.tree.types.TypeName.{TypeName}
use Rattle.ti_syntax.specs.declared.tree.exprs.Expr.{Expr, Row_of-Expr, end_of-Expr, more_of-Expr, Row_of-Range, end_of-Range, more_of-Range}
use Rattle.ti_syntax.specs.declared.tree.exprs.Expr.TheVariants as e
use Rattle.ti_syntax.specs.declared.tree.exprs.Range.{Range}
use Rattle.ti_syntax.specs.declared.tree.exprs.Range.TheVariants as r
use Rattle.ti_syntax.specs.declared.tree.stmts.Dims.{Dims}
use Rattle.ti_syntax.specs.declared.tree.stmts.Dims.TheVariants as d
use Rattle.ti_syntax.specs.declared.tree.stmts.Init.{Init}
use Rattle.ti_syntax.specs.declared.tree.stmts.Init.TheVariants as i
use Rattle.ti_syntax.specs.declared.tree.stmts.PrintArgument.{PrintArgument}
use Rattle.ti_syntax.specs.declared.tree.stmts.PrintArgument.TheVariants as p
use Rattle.ti_syntax.specs.declared.tree.stmts.Stmt.{Stmt, Row_of-Stmt, end_of-Stmt, more_of-Stmt, Held-Stmt-If-3, None', Some'}
use Rattle.ti_syntax.specs.declared.tree.stmts.Stmt.TheVariants as t
use Rattle.ti_syntax.specs.declared.tree.classes.Field.{Field}
use Rattle.ti_syntax.specs.declared.tree.classes.ParamDecl.{ParamDecl}
use Rattle.ti_syntax.specs.declared.tree.classes.Params.{Params}
use Rattle.ti_syntax.specs.declared.tree.classes.Params.TheVariants as params
use Rattle.ti_syntax.specs.declared.tree.classes.ResultDecl.{ResultDecl}
use Rattle.ti_syntax.specs.declared.tree.classes.ResultDecl.TheVariants as result
use Rattle.ti_syntax.specs.declared.tree.classes.Method.{Method}
use Rattle.ti_syntax.specs.declared.tree.classes.Member.{Member}
use Rattle.ti_syntax.specs.declared.tree.classes.Member.TheVariants as m
use Rattle.ti_syntax.specs.declared.tree.classes.Class.{Class}
use Rattle.ti_syntax.specs.Trees.Types.{GridTree, TypeTree}
use Rattle.ti_syntax.specs.Trees.Expressions.{Exp, Exps, RangeTree, RangeTrees}
use Rattle.ti_syntax.specs.Trees.Expressions as x
use Rattle.ti_syntax.specs.Trees.Statements.{DimsTree, InitTree, PrintTree, Stm, MaybeStm, Stms}
use Rattle.ti_syntax.specs.Trees.Statements as s
use Rattle.ti_syntax.specs.Trees.Classes.{FieldTree, ParamTree, ParamsTree, ResultTree, MethodTree, MemberTree, ClassTree, TextTree}
use Rattle.ti_syntax.specs.Trees.Classes as c

-- the model of an optional part
abbrev pub maybe_of : {A B : Type 0} → (A → B) → Option A → Option B
maybe_of view None = None
maybe_of view (Some a) = Some (view a)

-- ---- types

abbrev pub grid_of : Brackets → GridTree
grid_of g = record { dim = g.dim; qualifiers = g.qualifiers.items }

abbrev pub type_tree_of : TypeName → TypeTree
type_tree_of t = record { base = t.base; qualifiers = t.qualifiers.items; grids = map grid_of t.grids.items }

-- ---- expressions

abbrev mutual
  pub exp_of : Expr → Exp
  exp_of (e.Int at n) = x.Int at n
  exp_of (e.Long at n) = x.Long at n
  exp_of (e.Bool at b) = x.Truth at b
  exp_of (e.Null at) = x.Null at
  exp_of (e.This at) = x.This at
  exp_of (e.Name at name) = x.Name at name
  exp_of (e.Call' at name _ args) = x.Call at name (args_of args)
  exp_of (e.ThisProc at) = x.ThisProc at
  exp_of (e.NumProcs at) = x.NumProcs at
  exp_of (e.Point' at _ parts) = x.Point at (args_of parts)
  exp_of (e.Rect' at _ ranges) = x.Rect at (rows_of ranges)
  exp_of (e.Unary' at op _ a) = x.Unary at op (exp_of a)
  exp_of (e.Binary' at op _ a _ b) = x.Binary at op (exp_of a) (exp_of b)
  exp_of (e.Cast' at to _ a) = x.Cast at (type_tree_of to.value) (exp_of a)
  exp_of (e.Select' at _ a name) = x.Select at (exp_of a) name
  exp_of (e.Member' at _ a name _ args) = x.Member at (exp_of a) name (args_of args)
  exp_of (e.Index' at _ a _ parts) = x.Index at (exp_of a) (args_of parts)

  pub args_of : {n : _} → Row_of-Expr n → Exps
  args_of end_of-Expr = x.NoExp
  args_of (more_of-Expr a rest) = x.MoreExp (exp_of a) (args_of rest)

  pub range_of : Range → RangeTree
  range_of (r.Plain low high) = x.Plain (exp_of low) (exp_of high)
  range_of (r.Stepped low high step) = x.Stepped (exp_of low) (exp_of high) (exp_of step)

  pub rows_of : {n : _} → Row_of-Range n → RangeTrees
  rows_of end_of-Range = x.NoRange
  rows_of (more_of-Range a rest) = x.MoreRange (range_of a) (rows_of rest)

abbrev pub exps_of : Vec Expr Global → List Exp
exps_of v = map exp_of v.items

abbrev pub ranges_of : Vec Range Global → List RangeTree
ranges_of v = map range_of v.items

-- ---- statements

abbrev pub dims_of : Dims → DimsTree
dims_of (d.Domain a) = s.Domain (exp_of a)
dims_of (d.Ranges v) = s.Ranges (ranges_of v)

abbrev pub init_of : Init → InitTree
init_of (i.Value a) = s.Value (exp_of a)
init_of (i.NewRegion at) = s.NewRegion at
init_of (i.NewObject at region name_at name) = s.NewObject at (maybe_of exp_of region) name_at name
init_of (i.NewGrid at region element dims_at dims) = s.NewGrid at (maybe_of exp_of region) (type_tree_of element) dims_at (dims_of dims)
init_of (i.Broadcast at a root) = s.Broadcast at (exp_of a) (exp_of root)

abbrev pub print_of : PrintArgument → PrintTree
print_of p.Nothing = s.Nothing
print_of (p.Text text) = s.Text text
print_of (p.Value a) = s.Expression (exp_of a)
print_of (p.TextAndValue text a) = s.TextAndExpression text (exp_of a)

abbrev mutual
  pub stm_of : Stmt → Stm
  stm_of t.Empty = s.Empty
  stm_of (t.Declare at ty name value) = s.Declare at (type_tree_of ty) name (init_of value.value)
  stm_of (t.Assign at target value) = s.Assign at (exp_of target) (init_of value.value)
  stm_of (t.Update at op target a) = s.Update at op (exp_of target) (exp_of a)
  stm_of (t.Step at op target) = s.Step at op (exp_of target)
  stm_of (t.Call a) = s.Call (exp_of a)
  stm_of (t.Print at what) = s.Print at (print_of what)
  stm_of (t.Barrier at) = s.Barrier at
  stm_of (t.Break at) = s.Break at
  stm_of (t.Continue at) = s.Continue at
  stm_of (t.Return at value) = s.Return at (maybe_of exp_of value)
  stm_of (t.Block' _ body) = s.Block (row_of body)
  stm_of (t.If' at c _ a b) = choice_of at (exp_of c) (stm_of a) b
  stm_of (t.While' at c _ body) = s.While at (exp_of c) (stm_of body)
  stm_of (t.For' at first c update _ body) = s.For at (maybe_stm_of first) (maybe_of exp_of c) (maybe_stm_of update) (stm_of body)
  stm_of (t.Foreach' at name_at name domain _ body) = s.Foreach at name_at name (exp_of domain) (stm_of body)

  pub choice_of : Place → Exp → Stm → Held-Stmt-If-3 → Stm
  choice_of at c a None' = s.If at c a
  choice_of at c a (Some' _ b) = s.IfElse at c a (stm_of b)

  pub maybe_stm_of : Held-Stmt-If-3 → MaybeStm
  maybe_stm_of None' = s.NoStm
  maybe_stm_of (Some' _ a) = s.SomeStm (stm_of a)

  pub row_of : {n : _} → Row_of-Stmt n → Stms
  row_of end_of-Stmt = s.Nil
  row_of (more_of-Stmt a rest) = s.Cons (stm_of a) (row_of rest)

abbrev pub stms_of : Vec Stmt Global → List Stm
stms_of v = map stm_of v.items

-- ---- classes

abbrev pub field_of : Field → FieldTree
field_of f = record { modifiers = f.modifiers.items; ty = type_tree_of f.ty; place = f.place; name = f.name }

abbrev pub param_of : ParamDecl → ParamTree
param_of p = record { ty = type_tree_of p.ty; place = p.place; name = p.name }

abbrev pub params_of : Params → ParamsTree
params_of (params.MainArgs at name) = c.MainArgs at name
params_of (params.Typed v) = c.Params (map param_of v.items)

abbrev pub result_of : ResultDecl → ResultTree
result_of (result.Void at) = c.Void at
result_of (result.Typed ty) = c.Typed (type_tree_of ty)

abbrev pub method_of : Method → MethodTree
method_of m = record {
  modifiers = m.modifiers.items;
  result = result_of m.result;
  place = m.place;
  name = m.name;
  params = params_of m.params;
  body = stms_of m.body;
  end = m.end;
}

abbrev pub member_of : Member → MemberTree
member_of (m.Field f) = c.FieldMember (field_of f)
member_of (m.Method m) = c.MethodMember (method_of m)

abbrev pub class_of : Class → ClassTree
class_of c =
    record { modifiers = c.modifiers.items; word = c.word; place = c.place; name = c.name; members = map member_of c.members.items }

abbrev pub text_tree_of : Vec Class Global → TextTree
text_tree_of classes = map class_of classes.items
