-- Well-formed references: the variables, methods and fields of `this` to which an expression refers by number exist, and so does `this`.
use Rattle.std.specs.Prelude.{◌≡◌, Option, Some, slice_get, option_and_then}
use Rattle.ti_lang.specs.Program.Expressions.{NumberedExp, NumberedExps, NumberedRange, NumberedRanges}
use Rattle.ti_lang.specs.Program.Expressions as x
use Rattle.ti_lang.specs.Program.Classes.{ProgramView}
use Rattle.ti_lang.specs.Program.Scope.{ScopeContents}
use Rattle.ti_lang.specs.Typing.Declared.{variable_type, field_type}

-- the option isn't empty
abbrev pub IsThere : {A : Type 0} → Option A → Type 0
IsThere {A} o = (a : A) × (o ≡ Some a)

abbrev mutual
  -- all references in an expression refer to something in the scope or the program
  pub IsKnown : ProgramView → ScopeContents → NumberedExp → Type 0
  IsKnown p s (x.Variable at v) = IsThere (variable_type s v)
  IsKnown p s (x.This at) = IsThere s.this_class
  IsKnown p s (x.OwnField at field) = IsThere (option_and_then (λ c. field_type p c field) s.this_class)
  IsKnown p s (x.Call at method args) = IsThere (slice_get p.methods method) × AreKnown p s args
  IsKnown p s (x.OwnCall at method args) = IsThere (slice_get p.methods method) × AreKnown p s args
  IsKnown p s (x.Point at parts) = AreKnown p s parts
  IsKnown p s (x.Rect at ranges) = AreKnownRanges p s ranges
  IsKnown p s (x.Unary at op a) = IsKnown p s a
  IsKnown p s (x.Binary at op a b) = IsKnown p s a × IsKnown p s b
  IsKnown p s (x.Cast at to a) = IsKnown p s a
  IsKnown p s (x.Select at a name) = IsKnown p s a
  IsKnown p s (x.Member at a name args) = IsKnown p s a × AreKnown p s args
  IsKnown p s (x.Index at a parts) = IsKnown p s a × AreKnown p s parts
  IsKnown p s e = Unit {0}

  -- all references in a list of expressions refer to something
  pub AreKnown : ProgramView → ScopeContents → NumberedExps → Type 0
  AreKnown p s x.NoExp = Unit {0}
  AreKnown p s (x.MoreExp a rest) = IsKnown p s a × AreKnown p s rest

  -- all references in the bounds and the stride of a range refer to something
  pub IsKnownRange : ProgramView → ScopeContents → NumberedRange → Type 0
  IsKnownRange p s (x.Plain low high) = IsKnown p s low × IsKnown p s high
  IsKnownRange p s (x.Stepped low high step) = IsKnown p s low × IsKnown p s high × IsKnown p s step

  -- all references in ranges refer to something
  pub AreKnownRanges : ProgramView → ScopeContents → NumberedRanges → Type 0
  AreKnownRanges p s x.NoRange = Unit {0}
  AreKnownRanges p s (x.MoreRange r rest) = IsKnownRange p s r × AreKnownRanges p s rest
