-- Resolved programs each of whose positions satisfies a predicate.
use Rattle.std.proofs.Common.{Option, Some, None}
use Rattle.ti_base.specs.declared.place.Place.{Place}
use Rattle.ti_lang.specs.Program.Types.{NumberedType}
use Rattle.ti_lang.specs.Program.Expressions.{NumberedExp, NumberedExps, NumberedRange}
use Rattle.ti_lang.specs.Program.Expressions.{NumberedRanges, numbered_ranges, place_of_numbered}
use Rattle.ti_lang.specs.Program.Expressions as e
use Rattle.ti_lang.specs.Program.Statements.{NumberedDims, NumberedInit, NumberedPrint, NumberedStm}
use Rattle.ti_lang.specs.Program.Statements.{MaybeNumbered, NumberedStms, numbered_stms}
use Rattle.ti_lang.specs.Program.Statements as s
use Rattle.ti_lang.specs.Program.Classes.{NumberedField, NumberedClass, NumberedParam}
use Rattle.ti_lang.specs.Program.Classes.{NumberedParams, NumberedResult, NumberedMethod}
use Rattle.ti_lang.specs.Program.Classes.{ProgramView}
use Rattle.ti_lang.specs.Program.Classes as c
use Rattle.ti_diagnostics.proofs.Places.Elements.{HoldsOfEach}
use Rattle.ti_diagnostics.proofs.Places.Trees.{WordsPlaced, GridsPlaced, ModifiersPlaced}

abbrev pub TypePlaced : (Place → Type 0) → NumberedType → Type 0
TypePlaced P t = WordsPlaced P t.qualifiers × GridsPlaced P t.grids

-- ---- expressions

abbrev mutual
  pub ExpPlaced : (Place → Type 0) → NumberedExp → Type 0
  ExpPlaced P (e.Int at n) = P at
  ExpPlaced P (e.Long at n) = P at
  ExpPlaced P (e.Truth at b) = P at
  ExpPlaced P (e.Null at) = P at
  ExpPlaced P (e.This at) = P at
  ExpPlaced P (e.Variable at v) = P at
  ExpPlaced P (e.OwnField at field) = P at
  ExpPlaced P (e.Call at method args) = P at × ExpsPlaced P args
  ExpPlaced P (e.OwnCall at method args) = P at × ExpsPlaced P args
  ExpPlaced P (e.ThisProc at) = P at
  ExpPlaced P (e.NumProcs at) = P at
  ExpPlaced P (e.Point at parts) = P at × ExpsPlaced P parts
  ExpPlaced P (e.Rect at ranges) = P at × RangesPlaced P ranges
  ExpPlaced P (e.Unary at op a) = P at × ExpPlaced P a
  ExpPlaced P (e.Binary at op a b) = P at × ExpPlaced P a × ExpPlaced P b
  ExpPlaced P (e.Cast at to a) = P at × TypePlaced P to × ExpPlaced P a
  ExpPlaced P (e.Select at a name) = P at × ExpPlaced P a
  ExpPlaced P (e.Member at a name args) = P at × ExpPlaced P a × ExpsPlaced P args
  ExpPlaced P (e.Index at a parts) = P at × ExpPlaced P a × ExpsPlaced P parts

  pub ExpsPlaced : (Place → Type 0) → NumberedExps → Type 0
  ExpsPlaced P e.NoExp = Unit {0}
  ExpsPlaced P (e.MoreExp a rest) = ExpPlaced P a × ExpsPlaced P rest

  pub RangePlaced : (Place → Type 0) → NumberedRange → Type 0
  RangePlaced P (e.Plain low high) = ExpPlaced P low × ExpPlaced P high
  RangePlaced P (e.Stepped low high step) = ExpPlaced P low × ExpPlaced P high × ExpPlaced P step

  pub RangesPlaced : (Place → Type 0) → NumberedRanges → Type 0
  RangesPlaced P e.NoRange = Unit {0}
  RangesPlaced P (e.MoreRange r rest) = RangePlaced P r × RangesPlaced P rest

abbrev pub OptionPlaced : (Place → Type 0) → Option NumberedExp → Type 0
OptionPlaced P None = Unit {0}
OptionPlaced P (Some a) = ExpPlaced P a

-- its own position is one of them
pub place_placed : (P : Place → Type 0) (a : NumberedExp) → ExpPlaced P a → P (place_of_numbered a)
place_placed P (e.Int at n) h = h
place_placed P (e.Long at n) h = h
place_placed P (e.Truth at b) h = h
place_placed P (e.Null at) h = h
place_placed P (e.This at) h = h
place_placed P (e.Variable at v) h = h
place_placed P (e.OwnField at field) h = h
place_placed P (e.Call at method args) h = h.0
place_placed P (e.OwnCall at method args) h = h.0
place_placed P (e.ThisProc at) h = h
place_placed P (e.NumProcs at) h = h
place_placed P (e.Point at parts) h = h.0
place_placed P (e.Rect at ranges) h = h.0
place_placed P (e.Unary at op a) h = h.0
place_placed P (e.Binary at op a b) h = h.0
place_placed P (e.Cast at to a) h = h.0
place_placed P (e.Select at a name) h = h.0
place_placed P (e.Member at a name args) h = h.0
place_placed P (e.Index at a parts) h = h.0

-- ---- statements

abbrev pub DimsPlaced : (Place → Type 0) → NumberedDims → Type 0
DimsPlaced P (s.Domain a) = ExpPlaced P a
DimsPlaced P (s.Ranges ranges) = RangesPlaced P (numbered_ranges ranges)

abbrev pub InitPlaced : (Place → Type 0) → NumberedInit → Type 0
InitPlaced P (s.Value a) = ExpPlaced P a
InitPlaced P (s.NewRegion at) = P at
InitPlaced P (s.NewObject at region class) = P at × OptionPlaced P region
InitPlaced P (s.NewGrid at region element dims_at dims) =
    P at × OptionPlaced P region × TypePlaced P element × P dims_at × DimsPlaced P dims
InitPlaced P (s.Broadcast at a root) = P at × ExpPlaced P a × ExpPlaced P root

abbrev pub PrintPlaced : (Place → Type 0) → NumberedPrint → Type 0
PrintPlaced P s.Nothing = Unit {0}
PrintPlaced P (s.Text literal) = Unit {0}
PrintPlaced P (s.Expression a) = ExpPlaced P a
PrintPlaced P (s.TextAndExpression literal a) = ExpPlaced P a

abbrev mutual
  pub StmPlaced : (Place → Type 0) → NumberedStm → Type 0
  StmPlaced P s.Empty = Unit {0}
  StmPlaced P (s.Declare at type variable value) = P at × TypePlaced P type × InitPlaced P value
  StmPlaced P (s.Assign at target value) = P at × ExpPlaced P target × InitPlaced P value
  StmPlaced P (s.Update at op target a) = P at × ExpPlaced P target × ExpPlaced P a
  StmPlaced P (s.Step at op target) = P at × ExpPlaced P target
  StmPlaced P (s.Call a) = ExpPlaced P a
  StmPlaced P (s.Print at what) = P at × PrintPlaced P what
  StmPlaced P (s.Barrier at) = P at
  StmPlaced P (s.Break at) = P at
  StmPlaced P (s.Continue at) = P at
  StmPlaced P (s.Return at value) = P at × OptionPlaced P value
  StmPlaced P (s.Block body) = StmsPlaced P body
  StmPlaced P (s.If at c a) = P at × ExpPlaced P c × StmPlaced P a
  StmPlaced P (s.IfElse at c a b) = P at × ExpPlaced P c × StmPlaced P a × StmPlaced P b
  StmPlaced P (s.While at c body) = P at × ExpPlaced P c × StmPlaced P body
  StmPlaced P (s.For at first c update body) =
      P at × MaybePlaced P first × OptionPlaced P c × MaybePlaced P update × StmPlaced P body
  StmPlaced P (s.Foreach at variable domain body) = P at × ExpPlaced P domain × StmPlaced P body

  pub MaybePlaced : (Place → Type 0) → MaybeNumbered → Type 0
  MaybePlaced P s.NoStm = Unit {0}
  MaybePlaced P (s.SomeStm a) = StmPlaced P a

  pub StmsPlaced : (Place → Type 0) → NumberedStms → Type 0
  StmsPlaced P s.Nil = Unit {0}
  StmsPlaced P (s.Cons a rest) = StmPlaced P a × StmsPlaced P rest

-- ---- classes

abbrev pub FieldPlaced : (Place → Type 0) → NumberedField → Type 0
FieldPlaced P f = ModifiersPlaced P f.modifiers × TypePlaced P f.ty

abbrev pub ClassPlaced : (Place → Type 0) → NumberedClass → Type 0
ClassPlaced P x = ModifiersPlaced P x.modifiers × HoldsOfEach (FieldPlaced P) x.fields

abbrev pub ParamPlaced : (Place → Type 0) → NumberedParam → Type 0
ParamPlaced P param = P param.place × TypePlaced P param.ty

abbrev pub ParamsPlaced : (Place → Type 0) → NumberedParams → Type 0
ParamsPlaced P c.MainArgs = Unit {0}
ParamsPlaced P (c.Params params) = HoldsOfEach (ParamPlaced P) params

abbrev pub ResultPlaced : (Place → Type 0) → NumberedResult → Type 0
ResultPlaced P c.Void = Unit {0}
ResultPlaced P (c.Typed type) = TypePlaced P type

abbrev pub MethodPlaced : (Place → Type 0) → NumberedMethod → Type 0
MethodPlaced P m =
    ModifiersPlaced P m.modifiers × ResultPlaced P m.result × P m.place × ParamsPlaced P m.params
    × StmsPlaced P (numbered_stms m.body) × P m.end

-- each position of the program satisfies the predicate
abbrev pub ProgramPlaced : (Place → Type 0) → ProgramView → Type 0
ProgramPlaced P p = HoldsOfEach (ClassPlaced P) p.classes × HoldsOfEach (MethodPlaced P) p.methods
