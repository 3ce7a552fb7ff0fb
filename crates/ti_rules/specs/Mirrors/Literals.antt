-- The literals of a program are in the ranges of their types.
use Rattle.std.specs.Prelude.{List, [], ◌∷◌, Option, Some, None}
use Rattle.std.specs.Int.{w32, w64}
use Rattle.ti_base.specs.WholeNumbers.{Fits}
use Rattle.ti_lang.specs.Program.Expressions.{NumberedExp, numbered_ranges, NumberedExps, NumberedRange, NumberedRanges}
use Rattle.ti_lang.specs.Program.Statements.{NumberedDims, NumberedInit, NumberedPrint, NumberedStm, MaybeNumbered, NumberedStms, numbered_stms}
use Rattle.ti_lang.specs.Program.Classes.{NumberedMethod, ProgramView}
use Rattle.ti_lang.specs.Program.Expressions as e
use Rattle.ti_lang.specs.Program.Statements as st

-- ---- expressions

abbrev mutual
  -- each `int` literal in an expression has 32 bits, and each `long` literal 64
  pub InExp : NumberedExp → Type 0
  InExp (e.Int at n) = Fits w32 n
  InExp (e.Long at n) = Fits w64 n
  InExp (e.Call at method args) = InExps args
  InExp (e.OwnCall at method args) = InExps args
  InExp (e.Point at parts) = InExps parts
  InExp (e.Rect at ranges) = InRanges ranges
  InExp (e.Unary at op a) = InExp a
  InExp (e.Binary at op a b) = InExp a × InExp b
  InExp (e.Cast at to a) = InExp a
  InExp (e.Select at a name) = InExp a
  InExp (e.Member at a name args) = InExp a × InExps args
  InExp (e.Index at a parts) = InExp a × InExps parts
  InExp x = Unit {0}

  pub InExps : NumberedExps → Type 0
  InExps e.NoExp = Unit {0}
  InExps (e.MoreExp a rest) = InExp a × InExps rest

  pub InRange : NumberedRange → Type 0
  InRange (e.Plain low high) = InExp low × InExp high
  InRange (e.Stepped low high step) = InExp low × InExp high × InExp step

  pub InRanges : NumberedRanges → Type 0
  InRanges e.NoRange = Unit {0}
  InRanges (e.MoreRange r rest) = InRange r × InRanges rest

-- the literals of an optional expression are in range
abbrev pub InOption : Option NumberedExp → Type 0
InOption None = Unit {0}
InOption (Some x) = InExp x

-- ---- statements

-- the literals in the domain of a new grid are in range
abbrev pub InDims : NumberedDims → Type 0
InDims (st.Domain x) = InExp x
InDims (st.Ranges ranges) = InRanges (numbered_ranges ranges)

-- the literals of a right side are in range
abbrev pub InInit : NumberedInit → Type 0
InInit (st.Value x) = InExp x
InInit (st.NewRegion at) = Unit {0}
InInit (st.NewObject at region class) = InOption region
InInit (st.NewGrid at region element dims_at dims) = InOption region × InDims dims
InInit (st.Broadcast at x root) = InExp x × InExp root

-- the literals in the operand of a print are in range
abbrev pub InPrint : NumberedPrint → Type 0
InPrint (st.Expression x) = InExp x
InPrint (st.TextAndExpression literal x) = InExp x
InPrint what = Unit {0}

abbrev mutual
  -- the literals of a statement, including nested statements, are in range
  pub InStm : NumberedStm → Type 0
  InStm (st.Declare at type variable value) = InInit value
  InStm (st.Assign at target value) = InExp target × InInit value
  InStm (st.Update at op target x) = InExp target × InExp x
  InStm (st.Step at op target) = InExp target
  InStm (st.Call x) = InExp x
  InStm (st.Print at what) = InPrint what
  InStm (st.Return at value) = InOption value
  InStm (st.Block body) = InStms body
  InStm (st.If at c x) = InExp c × InStm x
  InStm (st.IfElse at c x y) = InExp c × InStm x × InStm y
  InStm (st.While at c body) = InExp c × InStm body
  InStm (st.For at first c update body) = InMaybe first × InOption c × InMaybe update × InStm body
  InStm (st.Foreach at number domain body) = InExp domain × InStm body
  InStm x = Unit {0}

  pub InMaybe : MaybeNumbered → Type 0
  InMaybe st.NoStm = Unit {0}
  InMaybe (st.SomeStm x) = InStm x

  pub InStms : NumberedStms → Type 0
  InStms st.Nil = Unit {0}
  InStms (st.Cons x rest) = InStm x × InStms rest

-- ---- programs

-- the literals of methods are in range
abbrev pub InMethods : List NumberedMethod → Type 0
InMethods [] = Unit {0}
InMethods (m ∷ ms) = InStms (numbered_stms m.body) × InMethods ms

-- all literals of a program are in range
abbrev pub LiteralsFit : ProgramView → Type 0
LiteralsFit p = InMethods p.methods
