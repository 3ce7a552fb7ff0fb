-- Trees each of whose positions satisfies a predicate.
use Rattle.std.proofs.Common.{List, Option, Some, None}
use Rattle.std.specs.List.{AllByRecursion}
use Rattle.ti_base.specs.declared.place.Place.{Place}
use Rattle.ti_syntax.specs.declared.token.Token.{Token}
use Rattle.ti_syntax.specs.declared.tree.types.Base.{Base}
use Rattle.ti_syntax.specs.declared.tree.types.Base.TheVariants as base
use Rattle.ti_syntax.specs.declared.tree.types.Qualifier.{Qualifier}
use Rattle.ti_syntax.specs.declared.tree.classes.Modifier.{Modifier}
use Rattle.ti_syntax.specs.Trees.Types.{GridTree, TypeTree}
use Rattle.ti_syntax.specs.Trees.Expressions.{Exp, Exps, RangeTree, RangeTrees, ranges_tree}
use Rattle.ti_syntax.specs.Trees.Expressions as e
use Rattle.ti_syntax.specs.Trees.Statements.{DimsTree, InitTree, PrintTree, Stm, MaybeStm, Stms}
use Rattle.ti_syntax.specs.Trees.Statements.{stms}
use Rattle.ti_syntax.specs.Trees.Statements as s
use Rattle.ti_syntax.specs.Trees.Classes.{FieldTree, ParamTree, ParamsTree, ResultTree, MethodTree}
use Rattle.ti_syntax.specs.Trees.Classes.{MemberTree, ClassTree, TextTree}
use Rattle.ti_syntax.specs.Trees.Classes as c
use Rattle.ti_diagnostics.proofs.Places.Elements.{HoldsOfEach}

-- ---- tokens

abbrev pub TokensPlaced : (Place → Type 0) → List Token → Type 0
TokensPlaced P tokens = AllByRecursion (λ (t : Token). P t.place) tokens

-- ---- types

abbrev pub BasePlaced : (Place → Type 0) → Base → Type 0
BasePlaced P (base.Int at) = P at
BasePlaced P (base.Long at) = P at
BasePlaced P (base.Boolean at) = P at
BasePlaced P (base.Point at n) = P at
BasePlaced P (base.RectDomain at n) = P at
BasePlaced P (base.Domain at n) = P at
BasePlaced P (base.SharedRegion at) = P at
BasePlaced P (base.Named at name) = P at

abbrev pub WordsPlaced : (Place → Type 0) → List Qualifier → Type 0
WordsPlaced P words = HoldsOfEach (λ (q : Qualifier). P q.place) words

abbrev pub GridsPlaced : (Place → Type 0) → List GridTree → Type 0
GridsPlaced P grids = HoldsOfEach (λ (g : GridTree). WordsPlaced P g.qualifiers) grids

abbrev pub TypePlaced : (Place → Type 0) → TypeTree → Type 0
TypePlaced P t = BasePlaced P t.base × WordsPlaced P t.qualifiers × GridsPlaced P t.grids

-- ---- expressions

abbrev mutual
  pub ExpPlaced : (Place → Type 0) → Exp → Type 0
  ExpPlaced P (e.Int at n) = P at
  ExpPlaced P (e.Long at n) = P at
  ExpPlaced P (e.Truth at b) = P at
  ExpPlaced P (e.Null at) = P at
  ExpPlaced P (e.This at) = P at
  ExpPlaced P (e.Name at name) = P at
  ExpPlaced P (e.Call at name args) = P at × ExpsPlaced P args
  ExpPlaced P (e.ThisProc at) = P at
  ExpPlaced P (e.NumProcs at) = P at
  ExpPlaced P (e.Point at parts) = P at × ExpsPlaced P parts
  ExpPlaced P (e.Rect at ranges) = P at × RangesPlaced P ranges
  ExpPlaced P (e.Unary at op a) = P at × ExpPlaced P a
  ExpPlaced P (e.Binary at op a b) = P at × ExpPlaced P a × ExpPlaced P b
  ExpPlaced P (e.Cast at to a) = P at × TypePlaced P to × ExpPlaced P a
  ExpPlaced P (e.Select at a name) = P at × ExpPlaced P a
  ExpPlaced P (e.Member at a name args) = P at × ExpPlaced P a × ExpsPlaced P args
  ExpPlaced P (e.Index at a parts) = P at × ExpPlaced P a × ExpsPlaced P parts

  pub ExpsPlaced : (Place → Type 0) → Exps → Type 0
  ExpsPlaced P e.NoExp = Unit {0}
  ExpsPlaced P (e.MoreExp a rest) = ExpPlaced P a × ExpsPlaced P rest

  pub RangePlaced : (Place → Type 0) → RangeTree → Type 0
  RangePlaced P (e.Plain low high) = ExpPlaced P low × ExpPlaced P high
  RangePlaced P (e.Stepped low high step) = ExpPlaced P low × ExpPlaced P high × ExpPlaced P step

  pub RangesPlaced : (Place → Type 0) → RangeTrees → Type 0
  RangesPlaced P e.NoRange = Unit {0}
  RangesPlaced P (e.MoreRange r rest) = RangePlaced P r × RangesPlaced P rest

abbrev pub OptionPlaced : (Place → Type 0) → Option Exp → Type 0
OptionPlaced P None = Unit {0}
OptionPlaced P (Some a) = ExpPlaced P a

-- ---- statements

abbrev pub DimsPlaced : (Place → Type 0) → DimsTree → Type 0
DimsPlaced P (s.Domain a) = ExpPlaced P a
DimsPlaced P (s.Ranges ranges) = RangesPlaced P (ranges_tree ranges)

abbrev pub InitPlaced : (Place → Type 0) → InitTree → Type 0
InitPlaced P (s.Value a) = ExpPlaced P a
InitPlaced P (s.NewRegion at) = P at
InitPlaced P (s.NewObject at region name_at name) = P at × OptionPlaced P region × P name_at
InitPlaced P (s.NewGrid at region element dims_at dims) =
    P at × OptionPlaced P region × TypePlaced P element × P dims_at × DimsPlaced P dims
InitPlaced P (s.Broadcast at a root) = P at × ExpPlaced P a × ExpPlaced P root

abbrev pub PrintPlaced : (Place → Type 0) → PrintTree → Type 0
PrintPlaced P s.Nothing = Unit {0}
PrintPlaced P (s.Text text) = Unit {0}
PrintPlaced P (s.Expression a) = ExpPlaced P a
PrintPlaced P (s.TextAndExpression text a) = ExpPlaced P a

abbrev mutual
  pub StmPlaced : (Place → Type 0) → Stm → Type 0
  StmPlaced P s.Empty = Unit {0}
  StmPlaced P (s.Declare at type name value) = P at × TypePlaced P type × InitPlaced P value
  StmPlaced P (s.Assign at target value) = P at × ExpPlaced P target × InitPlaced P value
  StmPlaced P (s.Update at op target a) = P at × ExpPlaced P target × ExpPlaced P a
  StmPlaced P (s.Step at op target) = P at × ExpPlaced P target
  StmPlaced P (s.Call a) = ExpPlaced P a
  StmPlaced P (s.Print at what) = P at × PrintPlaced P what
  StmPlaced P (s.Barrier at) = P at
  StmPlaced P (s.Break at) = P at
  StmPlaced P (s.Continue at) = P at
  StmPlaced P (s.Return at value) = P at × OptionPlaced P value
  StmPlaced P (s.Block body) = StmsPlaced P body
  StmPlaced P (s.If at c a) = P at × ExpPlaced P c × StmPlaced P a
  StmPlaced P (s.IfElse at c a b) = P at × ExpPlaced P c × StmPlaced P a × StmPlaced P b
  StmPlaced P (s.While at c body) = P at × ExpPlaced P c × StmPlaced P body
  StmPlaced P (s.For at first c update body) =
      P at × MaybePlaced P first × OptionPlaced P c × MaybePlaced P update × StmPlaced P body
  StmPlaced P (s.Foreach at name_at name domain body) =
      P at × P name_at × ExpPlaced P domain × StmPlaced P body

  pub MaybePlaced : (Place → Type 0) → MaybeStm → Type 0
  MaybePlaced P s.NoStm = Unit {0}
  MaybePlaced P (s.SomeStm a) = StmPlaced P a

  pub StmsPlaced : (Place → Type 0) → Stms → Type 0
  StmsPlaced P s.Nil = Unit {0}
  StmsPlaced P (s.Cons a rest) = StmPlaced P a × StmsPlaced P rest

-- ---- classes

abbrev pub ModifiersPlaced : (Place → Type 0) → List Modifier → Type 0
ModifiersPlaced P words = HoldsOfEach (λ (m : Modifier). P m.place) words

abbrev pub FieldPlaced : (Place → Type 0) → FieldTree → Type 0
FieldPlaced P f = ModifiersPlaced P f.modifiers × TypePlaced P f.ty × P f.place

abbrev pub ParamPlaced : (Place → Type 0) → ParamTree → Type 0
ParamPlaced P param = P param.place × TypePlaced P param.ty

abbrev pub ParamsPlaced : (Place → Type 0) → ParamsTree → Type 0
ParamsPlaced P (c.MainArgs at name) = P at
ParamsPlaced P (c.Params params) = HoldsOfEach (ParamPlaced P) params

abbrev pub ResultPlaced : (Place → Type 0) → ResultTree → Type 0
ResultPlaced P (c.Void at) = P at
ResultPlaced P (c.Typed type) = TypePlaced P type

abbrev pub MethodPlaced : (Place → Type 0) → MethodTree → Type 0
MethodPlaced P m =
    ModifiersPlaced P m.modifiers × ResultPlaced P m.result × P m.place × ParamsPlaced P m.params
    × StmsPlaced P (stms m.body) × P m.end

abbrev pub MemberPlaced : (Place → Type 0) → MemberTree → Type 0
MemberPlaced P (c.FieldMember f) = FieldPlaced P f
MemberPlaced P (c.MethodMember m) = MethodPlaced P m

abbrev pub ClassPlaced : (Place → Type 0) → ClassTree → Type 0
ClassPlaced P x =
    ModifiersPlaced P x.modifiers × P x.word × P x.place × HoldsOfEach (MemberPlaced P) x.members

-- each position of the tree satisfies the predicate
abbrev pub TextPlaced : (Place → Type 0) → TextTree → Type 0
TextPlaced P text = HoldsOfEach (ClassPlaced P) text
