-- Statements that use such variables alone as are in scope.
use Rattle.std.specs.Prelude.{◌≡◌, Bool, false, ◌||◌, List, [], ◌∷◌, Option, Some, None}
use Rattle.std.specs.List.{list_any}
use Rattle.std.proofs.Math.Bool.{Bool-set}
use Rattle.ti_lang.specs.Program.Types.{Declaration, Typed, Foreach, VariableUse}
use Rattle.ti_lang.specs.Program.Expressions.{NumberedExp, NumberedExps, NumberedRange, NumberedRanges, numbered_ranges}
use Rattle.ti_lang.specs.Program.Expressions as e
use Rattle.ti_lang.specs.Program.Statements.{NumberedDims, NumberedInit, NumberedPrint, NumberedStm, MaybeNumbered, NoStm, SomeStm, NumberedStms, Nil, Cons}
use Rattle.ti_lang.specs.Program.Statements as s
use Rattle.ti_lang.specs.Meaning.Scoping.{same_variable}
use Rattle.ti_lang.specs.Meaning.Performing.{declared_alone, declared_among, declared_maybe}
use Rattle.ti_align.specs.Scoped.{Names, KnownAs, ExpScoped, ExpsScoped, RangeScoped, RangesScoped, OptionScoped, DimsScoped, InitScoped, PrintScoped}

-- the variable is one of these
abbrev pub is_one : List VariableUse → VariableUse → Bool
is_one ds v = list_any (λ d. same_variable v d) ds

-- the names and these
abbrev pub with_all : List VariableUse → Names → Names
with_all ds names = λ v. is_one ds v || names v

-- none of these is in scope
abbrev pub Fresh : Names → List VariableUse → Type 0
Fresh names [] = Unit {0}
Fresh names (d ∷ ds) = (names d ≡ false) × Fresh names ds

-- ---- statements

abbrev mutual
  -- the variables of a statement are in scope, or declared in it before; and what a block or a `for` declares wasn't in scope
  pub StmScoped : Names → NumberedStm → Type 0
  StmScoped names (s.Declare at type variable value) = InitScoped names value
  StmScoped names (s.Assign at target value) = ExpScoped names target × InitScoped names value
  StmScoped names (s.Update at op target x) = ExpScoped names target × ExpScoped names x
  StmScoped names (s.Step at op target) = ExpScoped names target
  StmScoped names (s.Call x) = ExpScoped names x
  StmScoped names (s.Print at what) = PrintScoped names what
  StmScoped names (s.Return at value) = OptionScoped names value
  StmScoped names (s.Block body) = StmsScoped names body × Fresh names (declared_among body)
  StmScoped names (s.If at c x) = ExpScoped names c × StmScoped names x
  StmScoped names (s.IfElse at c x y) = ExpScoped names c × StmScoped names x × StmScoped names y
  StmScoped names (s.While at c body) = ExpScoped names c × StmScoped names body
  StmScoped names (s.For at first c update body) =
      MaybeScoped names first × OptionScoped (with_all (declared_maybe first) names) c × MaybeScoped (with_all (declared_maybe first) names) update
      × StmScoped (with_all (declared_maybe first) names) body × Fresh names (declared_maybe first)
  StmScoped names (s.Foreach at variable domain body) = ExpScoped names domain × StmScoped names body
  StmScoped names x = Unit {0}

  pub MaybeScoped : Names → MaybeNumbered → Type 0
  MaybeScoped names NoStm = Unit {0}
  MaybeScoped names (SomeStm x) = StmScoped names x

  -- the statements of a list, each behind those before
  pub StmsScoped : Names → NumberedStms → Type 0
  StmsScoped names Nil = Unit {0}
  StmsScoped names (Cons x rest) = StmScoped names x × StmsScoped (with_all (declared_alone x) names) rest

-- ---- these are propositions

fresh_prop : (names : Names) (ds : List VariableUse) → IsProp (Fresh names ds)
fresh_prop names [] = hlevel
fresh_prop names (d ∷ ds) = hlevel (Bool-set (names d) false, fresh_prop names ds)

known_prop : (names : Names) (v : VariableUse) (d : Declaration) → IsProp (KnownAs names v d)
known_prop names v (Typed is_single type) = Bool-set _ _
known_prop names v Foreach = hlevel

module _ (names : Names) where
  mutual
    exp_prop : (x : NumberedExp) → IsProp (ExpScoped names x)
    exp_prop (e.Variable at v) = known_prop names v v.declared
    exp_prop (e.Call at method args) = exps_prop args
    exp_prop (e.OwnCall at method args) = exps_prop args
    exp_prop (e.Point at parts) = exps_prop parts
    exp_prop (e.Rect at ranges) = ranges_prop ranges
    exp_prop (e.Unary at op x) = exp_prop x
    exp_prop (e.Binary at op x y) = hlevel (exp_prop x, exp_prop y)
    exp_prop (e.Cast at to x) = exp_prop x
    exp_prop (e.Select at x name) = exp_prop x
    exp_prop (e.Member at x name args) = hlevel (exp_prop x, exps_prop args)
    exp_prop (e.Index at x parts) = hlevel (exp_prop x, exps_prop parts)
    exp_prop _ = hlevel

    exps_prop : (xs : NumberedExps) → IsProp (ExpsScoped names xs)
    exps_prop e.NoExp = hlevel
    exps_prop (e.MoreExp x rest) = hlevel (exp_prop x, exps_prop rest)

    range_prop : (r : NumberedRange) → IsProp (RangeScoped names r)
    range_prop (e.Plain low high) = hlevel (exp_prop low, exp_prop high)
    range_prop (e.Stepped low high step) = hlevel (exp_prop low, exp_prop high, exp_prop step)

    ranges_prop : (rs : NumberedRanges) → IsProp (RangesScoped names rs)
    ranges_prop e.NoRange = hlevel
    ranges_prop (e.MoreRange r rest) = hlevel (range_prop r, ranges_prop rest)

  option_prop : (o : Option NumberedExp) → IsProp (OptionScoped names o)
  option_prop None = hlevel
  option_prop (Some x) = exp_prop x

  dims_prop : (d : NumberedDims) → IsProp (DimsScoped names d)
  dims_prop (s.Domain x) = exp_prop x
  dims_prop (s.Ranges ranges) = ranges_prop (numbered_ranges ranges)

  init_prop : (value : NumberedInit) → IsProp (InitScoped names value)
  init_prop (s.Value x) = exp_prop x
  init_prop (s.NewRegion at) = hlevel
  init_prop (s.NewObject at region class) = option_prop region
  init_prop (s.NewGrid at region element dims_at dims) = hlevel (option_prop region, dims_prop dims)
  init_prop (s.Broadcast at x root) = hlevel (exp_prop x, exp_prop root)

  print_prop : (what : NumberedPrint) → IsProp (PrintScoped names what)
  print_prop s.Nothing = hlevel
  print_prop (s.Text literal) = hlevel
  print_prop (s.Expression x) = exp_prop x
  print_prop (s.TextAndExpression literal x) = exp_prop x

mutual
  stm_prop : (names : Names) (x : NumberedStm) → IsProp (StmScoped names x)
  stm_prop names (s.Declare at type variable value) = init_prop names value
  stm_prop names (s.Assign at target value) = hlevel (exp_prop names target, init_prop names value)
  stm_prop names (s.Update at op target x) = hlevel (exp_prop names target, exp_prop names x)
  stm_prop names (s.Step at op target) = exp_prop names target
  stm_prop names (s.Call x) = exp_prop names x
  stm_prop names (s.Print at what) = print_prop names what
  stm_prop names (s.Return at value) = option_prop names value
  stm_prop names (s.Block body) = hlevel (stms_prop names body, fresh_prop names (declared_among body))
  stm_prop names (s.If at c x) = hlevel (exp_prop names c, stm_prop names x)
  stm_prop names (s.IfElse at c x y) = hlevel (exp_prop names c, stm_prop names x, stm_prop names y)
  stm_prop names (s.While at c body) = hlevel (exp_prop names c, stm_prop names body)
  stm_prop names (s.For at first c update body) =
      let inner : Names = with_all (declared_maybe first) names in
      hlevel (maybe_prop names first, option_prop inner c, maybe_prop inner update, stm_prop inner body, fresh_prop names (declared_maybe first))
  stm_prop names (s.Foreach at variable domain body) = hlevel (exp_prop names domain, stm_prop names body)
  stm_prop names _ = hlevel

  maybe_prop : (names : Names) (x : MaybeNumbered) → IsProp (MaybeScoped names x)
  maybe_prop names NoStm = hlevel
  maybe_prop names (SomeStm x) = stm_prop names x

  pub stms_prop : (names : Names) (xs : NumberedStms) → IsProp (StmsScoped names xs)
  stms_prop names Nil = hlevel
  stms_prop names (Cons x rest) = hlevel (stm_prop names x, stms_prop (with_all (declared_alone x) names) rest)
