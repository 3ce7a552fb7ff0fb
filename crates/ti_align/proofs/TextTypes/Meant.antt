-- What the text of a program says of its expressions and statements, beside the rules: what names mean, and the dimensions of literals and types.
use Rattle.std.proofs.Common.{w32, w64, ◌≡◌, ℕ, ◌==◌, Bool, true, false, not, ◌&&◌, List, [], ◌∷◌, Option, Some, None, is_some, is_none, option_and_then, slice_get}
use Rattle.std.specs.List.{list_any}
use Rattle.std.specs.Option.{option_map_or}
use Rattle.std.proofs.Math.Bool.{Bool-set}
use Rattle.std.proofs.Math.Dec.{T_prop}
use Rattle.ti_base.specs.WholeNumbers.{Fits}
use Rattle.ti_lang.specs.Program.Types.{ValueType, Declaration}
use Rattle.ti_lang.specs.Program.Types as t
use Rattle.ti_lang.specs.Program.Expressions.{NumberedExp, NumberedExps, NumberedRange, NumberedRanges, numbered_ranges}
use Rattle.ti_lang.specs.Program.Expressions as e
use Rattle.ti_lang.specs.Program.Statements.{NumberedDims, NumberedInit, NumberedPrint, NumberedStm, MaybeNumbered, NumberedStms, numbered_stms}
use Rattle.ti_lang.specs.Program.Statements as st
use Rattle.ti_lang.specs.Program.Classes.{NumberedMethod, ProgramView}
use Rattle.ti_lang.specs.Program.Scope.{this_of, method_scope}
use Rattle.ti_lang.specs.Typing.Kinds.{is_void}
use Rattle.ti_lang.specs.Typing.Declared.{in_scope, field_type}
use Rattle.ti_lang.specs.Typing.Expressions.{range_count}
use Rattle.ti_lang.specs.Typing.TextTypes.{how_many}
use Rattle.ti_base.specs.Forms.{is_dim}
use Rattle.ti_align.specs.Mirrors.ContItem.{is_form_of_call}

-- ---- types

-- a type that a field or an element may have
abbrev pub storable : ValueType → Bool
storable (t.Dm n) = false
storable t.Region = false
storable t.Null = false
storable t.Void = false
storable type = true

-- one to three dimensions, wherever there are any, and elements that may be there
abbrev pub formed : ValueType → Bool
formed (t.Pt n) = is_dim n
formed (t.Rc n) = is_dim n
formed (t.Dm n) = is_dim n
formed (t.Grid element n is_local) = is_dim n && (storable element && formed element)
formed type = true

-- ---- names

-- the number is that of one of these foreach loops
abbrev pub among : List ℕ → ℕ → Bool
among turns number = list_any (λ k. k == number) turns

-- a use of a variable with a type, or of that of one of these foreach loops, which is no parameter
abbrev pub means : NumberedMethod → List ℕ → ℕ → Declaration → Bool
means m turns number (t.Typed is_single type) = formed type && not (is_void type)
means m turns number t.Foreach = among turns number && is_none (in_scope (method_scope m) number)

-- where the first has a `this`, so has the second, of the same class
abbrev pub covers : Option ℕ → Option ℕ → Bool
covers None o = true
covers (Some c) None = false
covers (Some c) (Some d) = c == d

-- there is such a method, and `this` serves it
abbrev pub serves : ProgramView → NumberedMethod → ℕ → Bool
serves p m method = option_map_or (λ (called : NumberedMethod). covers (this_of called) (this_of m)) (slice_get p.methods method) false

-- what can be assigned to
abbrev pub is_place : NumberedExp → Bool
is_place (e.Variable at v) = true
is_place (e.OwnField at field) = true
is_place (e.Select at a name) = true
is_place (e.Index at a parts) = true
is_place x = false

module _ (p : ProgramView) (m : NumberedMethod) where
  abbrev mutual
    -- within these foreach loops of the method; numbers are within their ranges
    pub ExpMeant : List ℕ → NumberedExp → Type 0
    ExpMeant turns (e.Int at n) = Fits w32 n
    ExpMeant turns (e.Long at n) = Fits w64 n
    ExpMeant turns (e.This at) = is_some (this_of m) ≡ true
    ExpMeant turns (e.Variable at v) = means m turns v.number v.declared ≡ true
    ExpMeant turns (e.OwnField at field) = is_some (option_and_then (λ c. field_type p c field) (this_of m)) ≡ true
    ExpMeant turns (e.Call at method args) = (is_some (slice_get p.methods method) ≡ true) × ExpsMeant turns args
    ExpMeant turns (e.OwnCall at method args) = (serves p m method ≡ true) × ExpsMeant turns args
    ExpMeant turns (e.Point at parts) = (is_dim (how_many parts) ≡ true) × ExpsMeant turns parts
    ExpMeant turns (e.Rect at ranges) = (is_dim (range_count ranges) ≡ true) × RangesMeant turns ranges
    ExpMeant turns (e.Unary at op a) = ExpMeant turns a
    ExpMeant turns (e.Binary at op a b) = ExpMeant turns a × ExpMeant turns b
    ExpMeant turns (e.Cast at to a) = (formed to.type ≡ true) × ExpMeant turns a
    ExpMeant turns (e.Select at a name) = ExpMeant turns a
    ExpMeant turns (e.Member at a name args) = ExpMeant turns a × ExpsMeant turns args
    ExpMeant turns (e.Index at a parts) = ExpMeant turns a × ExpsMeant turns parts
    ExpMeant turns x = Unit {0}

    pub ExpsMeant : List ℕ → NumberedExps → Type 0
    ExpsMeant turns e.NoExp = Unit {0}
    ExpsMeant turns (e.MoreExp a rest) = ExpMeant turns a × ExpsMeant turns rest

    pub RangeMeant : List ℕ → NumberedRange → Type 0
    RangeMeant turns (e.Plain low high) = ExpMeant turns low × ExpMeant turns high
    RangeMeant turns (e.Stepped low high step) = ExpMeant turns low × ExpMeant turns high × ExpMeant turns step

    pub RangesMeant : List ℕ → NumberedRanges → Type 0
    RangesMeant turns e.NoRange = Unit {0}
    RangesMeant turns (e.MoreRange r rest) = RangeMeant turns r × RangesMeant turns rest

  -- an expression, if there is one
  abbrev pub OptionMeant : List ℕ → Option NumberedExp → Type 0
  OptionMeant turns None = Unit {0}
  OptionMeant turns (Some x) = ExpMeant turns x

  -- what a new grid spreads over
  abbrev pub DimsMeant : List ℕ → NumberedDims → Type 0
  DimsMeant turns (st.Domain x) = ExpMeant turns x
  DimsMeant turns (st.Ranges ranges) = (is_dim (range_count (numbered_ranges ranges)) ≡ true) × RangesMeant turns (numbered_ranges ranges)

  -- a right side; a class that it names is there, and so may be the elements of a grid
  abbrev pub InitMeant : List ℕ → NumberedInit → Type 0
  InitMeant turns (st.Value x) = ExpMeant turns x
  InitMeant turns (st.NewRegion at) = Unit {0}
  InitMeant turns (st.NewObject at region class) = OptionMeant turns region × (is_some (slice_get p.classes class) ≡ true)
  InitMeant turns (st.NewGrid at region element dims_at dims) = OptionMeant turns region × ((storable element.type && formed element.type) ≡ true) × DimsMeant turns dims
  InitMeant turns (st.Broadcast at x root) = ExpMeant turns x × ExpMeant turns root

  abbrev pub PrintMeant : List ℕ → NumberedPrint → Type 0
  PrintMeant turns (st.Expression x) = ExpMeant turns x
  PrintMeant turns (st.TextAndExpression literal x) = ExpMeant turns x
  PrintMeant turns what = Unit {0}

  abbrev pub TargetMeant : List ℕ → NumberedExp → Type 0
  TargetMeant turns x = ExpMeant turns x × (is_place x ≡ true)

  abbrev mutual
    -- a statement; the variable of a foreach has a number of its own
    pub StmMeant : List ℕ → NumberedStm → Type 0
    StmMeant turns (st.Declare at type variable value) = InitMeant turns value
    StmMeant turns (st.Assign at target value) = TargetMeant turns target × InitMeant turns value
    StmMeant turns (st.Update at op target x) = TargetMeant turns target × ExpMeant turns x
    StmMeant turns (st.Step at op target) = TargetMeant turns target
    StmMeant turns (st.Call x) = ExpMeant turns x × (is_form_of_call x ≡ true)
    StmMeant turns (st.Print at what) = PrintMeant turns what
    StmMeant turns (st.Return at value) = OptionMeant turns value
    StmMeant turns (st.Block body) = StmsMeant turns body
    StmMeant turns (st.If at c x) = ExpMeant turns c × StmMeant turns x
    StmMeant turns (st.IfElse at c x y) = ExpMeant turns c × StmMeant turns x × StmMeant turns y
    StmMeant turns (st.While at c body) = ExpMeant turns c × StmMeant turns body
    StmMeant turns (st.For at first c update body) = MaybeMeant turns first × OptionMeant turns c × MaybeMeant turns update × StmMeant turns body
    StmMeant turns (st.Foreach at number domain body) =
        ExpMeant turns domain × (among turns number ≡ false) × (is_none (in_scope (method_scope m) number) ≡ true) × StmMeant (number ∷ turns) body
    StmMeant turns x = Unit {0}

    pub MaybeMeant : List ℕ → MaybeNumbered → Type 0
    MaybeMeant turns st.NoStm = Unit {0}
    MaybeMeant turns (st.SomeStm x) = StmMeant turns x

    pub StmsMeant : List ℕ → NumberedStms → Type 0
    StmsMeant turns st.Nil = Unit {0}
    StmsMeant turns (st.Cons x rest) = StmMeant turns x × StmsMeant turns rest

-- the statements of all of these methods
abbrev pub MethodsMeant : ProgramView → List NumberedMethod → Type 0
MethodsMeant p [] = Unit {0}
MethodsMeant p (m ∷ ms) = StmsMeant p m [] (numbered_stms m.body) × MethodsMeant p ms

-- the fields of all classes have such types
abbrev pub FieldsMeant : ProgramView → Type 0
FieldsMeant p = (class field : ℕ) (type : ValueType) → field_type p class field ≡ Some type → (storable type && formed type) ≡ true

-- ---- these are propositions

module _ (p : ProgramView) (m : NumberedMethod) where
  mutual
    exp_prop : (turns : List ℕ) (x : NumberedExp) → IsProp (ExpMeant p m turns x)
    exp_prop turns (e.Int at n) = hlevel T_prop
    exp_prop turns (e.Long at n) = hlevel T_prop
    exp_prop turns (e.Truth at b) = hlevel
    exp_prop turns (e.Null at) = hlevel
    exp_prop turns (e.This at) = Bool-set _ _
    exp_prop turns (e.Variable at v) = Bool-set _ _
    exp_prop turns (e.OwnField at field) = Bool-set _ _
    exp_prop turns (e.Call at method args) = hlevel (Bool-set, exps_prop turns args)
    exp_prop turns (e.OwnCall at method args) = hlevel (Bool-set, exps_prop turns args)
    exp_prop turns (e.ThisProc at) = hlevel
    exp_prop turns (e.NumProcs at) = hlevel
    exp_prop turns (e.Point at parts) = hlevel (Bool-set, exps_prop turns parts)
    exp_prop turns (e.Rect at ranges) = hlevel (Bool-set, ranges_prop turns ranges)
    exp_prop turns (e.Unary at op a) = exp_prop turns a
    exp_prop turns (e.Binary at op a b) = hlevel (exp_prop turns a, exp_prop turns b)
    exp_prop turns (e.Cast at to a) = hlevel (Bool-set, exp_prop turns a)
    exp_prop turns (e.Select at a name) = exp_prop turns a
    exp_prop turns (e.Member at a name args) = hlevel (exp_prop turns a, exps_prop turns args)
    exp_prop turns (e.Index at a parts) = hlevel (exp_prop turns a, exps_prop turns parts)

    exps_prop : (turns : List ℕ) (xs : NumberedExps) → IsProp (ExpsMeant p m turns xs)
    exps_prop turns e.NoExp = hlevel
    exps_prop turns (e.MoreExp a rest) = hlevel (exp_prop turns a, exps_prop turns rest)

    range_prop : (turns : List ℕ) (r : NumberedRange) → IsProp (RangeMeant p m turns r)
    range_prop turns (e.Plain low high) = hlevel (exp_prop turns low, exp_prop turns high)
    range_prop turns (e.Stepped low high step) = hlevel (exp_prop turns low, exp_prop turns high, exp_prop turns step)

    ranges_prop : (turns : List ℕ) (rs : NumberedRanges) → IsProp (RangesMeant p m turns rs)
    ranges_prop turns e.NoRange = hlevel
    ranges_prop turns (e.MoreRange r rest) = hlevel (range_prop turns r, ranges_prop turns rest)

  option_prop : (turns : List ℕ) (x : Option NumberedExp) → IsProp (OptionMeant p m turns x)
  option_prop turns None = hlevel
  option_prop turns (Some x) = exp_prop turns x

  dims_prop : (turns : List ℕ) (dims : NumberedDims) → IsProp (DimsMeant p m turns dims)
  dims_prop turns (st.Domain x) = exp_prop turns x
  dims_prop turns (st.Ranges ranges) = hlevel (Bool-set, ranges_prop turns (numbered_ranges ranges))

  init_prop : (turns : List ℕ) (value : NumberedInit) → IsProp (InitMeant p m turns value)
  init_prop turns (st.Value x) = exp_prop turns x
  init_prop turns (st.NewRegion at) = hlevel
  init_prop turns (st.NewObject at region class) = hlevel (option_prop turns region, Bool-set)
  init_prop turns (st.NewGrid at region element dims_at dims) = hlevel (option_prop turns region, Bool-set, dims_prop turns dims)
  init_prop turns (st.Broadcast at x root) = hlevel (exp_prop turns x, exp_prop turns root)

  print_prop : (turns : List ℕ) (what : NumberedPrint) → IsProp (PrintMeant p m turns what)
  print_prop turns st.Nothing = hlevel
  print_prop turns (st.Text literal) = hlevel
  print_prop turns (st.Expression x) = exp_prop turns x
  print_prop turns (st.TextAndExpression literal x) = exp_prop turns x

  mutual
    stm_prop : (turns : List ℕ) (x : NumberedStm) → IsProp (StmMeant p m turns x)
    stm_prop turns st.Empty = hlevel
    stm_prop turns (st.Declare at type variable value) = init_prop turns value
    stm_prop turns (st.Assign at target value) = hlevel (exp_prop turns target, Bool-set, init_prop turns value)
    stm_prop turns (st.Update at op target x) = hlevel (exp_prop turns target, Bool-set, exp_prop turns x)
    stm_prop turns (st.Step at op target) = hlevel (exp_prop turns target, Bool-set)
    stm_prop turns (st.Call x) = hlevel (exp_prop turns x, Bool-set)
    stm_prop turns (st.Print at what) = print_prop turns what
    stm_prop turns (st.Barrier at) = hlevel
    stm_prop turns (st.Break at) = hlevel
    stm_prop turns (st.Continue at) = hlevel
    stm_prop turns (st.Return at value) = option_prop turns value
    stm_prop turns (st.Block body) = stms_prop turns body
    stm_prop turns (st.If at c x) = hlevel (exp_prop turns c, stm_prop turns x)
    stm_prop turns (st.IfElse at c x y) = hlevel (exp_prop turns c, stm_prop turns x, stm_prop turns y)
    stm_prop turns (st.While at c body) = hlevel (exp_prop turns c, stm_prop turns body)
    stm_prop turns (st.For at first c update body) = hlevel (maybe_prop turns first, option_prop turns c, maybe_prop turns update, stm_prop turns body)
    stm_prop turns (st.Foreach at number domain body) = hlevel (exp_prop turns domain, Bool-set, stm_prop (number ∷ turns) body)

    maybe_prop : (turns : List ℕ) (x : MaybeNumbered) → IsProp (MaybeMeant p m turns x)
    maybe_prop turns st.NoStm = hlevel
    maybe_prop turns (st.SomeStm x) = stm_prop turns x

    pub stms_prop : (turns : List ℕ) (xs : NumberedStms) → IsProp (StmsMeant p m turns xs)
    stms_prop turns st.Nil = hlevel
    stms_prop turns (st.Cons x rest) = hlevel (stm_prop turns x, stms_prop turns rest)

pub methods_prop : (p : ProgramView) (ms : List NumberedMethod) → IsProp (MethodsMeant p ms)
methods_prop p [] = hlevel
methods_prop p (m ∷ ms) = hlevel (stms_prop p m [] (numbered_stms m.body), methods_prop p ms)

pub fields_prop : (p : ProgramView) → IsProp (FieldsMeant p)
fields_prop p = hlevel Bool-set
