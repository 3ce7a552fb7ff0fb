-- That the literals of a program are in range is a proposition: any two proofs of it are equal.
use Rattle.std.specs.Prelude.{List, [], ◌∷◌, Option, Some, None}
use Rattle.std.proofs.Props.{props}
use Rattle.ti_lang.specs.Program.Expressions.{NumberedExp, numbered_ranges, NumberedExps, NumberedRange, NumberedRanges}
use Rattle.ti_lang.specs.Program.Statements.{NumberedDims, NumberedInit, NumberedPrint, NumberedStm, MaybeNumbered, NumberedStms, numbered_stms}
use Rattle.ti_lang.specs.Program.Classes.{NumberedMethod, ProgramView}
use Rattle.ti_lang.specs.Program.Expressions as e
use Rattle.ti_lang.specs.Program.Statements as s
use Rattle.ti_rules.specs.Mirrors.Literals.{InExp, InExps, InRange, InRanges, InOption, InDims, InInit, InPrint, InStm, InMaybe, InStms, InMethods, LiteralsFit}

mutual
  exp_prop : (x : NumberedExp) → IsProp (InExp x)
  exp_prop (e.Int at n) = hlevel props
  exp_prop (e.Long at n) = hlevel props
  exp_prop (e.Call at method args) = exps_prop args
  exp_prop (e.OwnCall at method args) = exps_prop args
  exp_prop (e.Point at parts) = exps_prop parts
  exp_prop (e.Rect at ranges) = ranges_prop ranges
  exp_prop (e.Unary at op x) = exp_prop x
  exp_prop (e.Binary at op x y) = hlevel (exp_prop x, exp_prop y)
  exp_prop (e.Cast at to x) = exp_prop x
  exp_prop (e.Select at x name) = exp_prop x
  exp_prop (e.Member at x name args) = hlevel (exp_prop x, exps_prop args)
  exp_prop (e.Index at x parts) = hlevel (exp_prop x, exps_prop parts)
  exp_prop _ = hlevel

  exps_prop : (xs : NumberedExps) → IsProp (InExps xs)
  exps_prop e.NoExp = hlevel
  exps_prop (e.MoreExp x rest) = hlevel (exp_prop x, exps_prop rest)

  range_prop : (r : NumberedRange) → IsProp (InRange r)
  range_prop (e.Plain low high) = hlevel (exp_prop low, exp_prop high)
  range_prop (e.Stepped low high step) = hlevel (exp_prop low, exp_prop high, exp_prop step)

  ranges_prop : (rs : NumberedRanges) → IsProp (InRanges rs)
  ranges_prop e.NoRange = hlevel
  ranges_prop (e.MoreRange r rest) = hlevel (range_prop r, ranges_prop rest)

option_prop : (o : Option NumberedExp) → IsProp (InOption o)
option_prop None = hlevel
option_prop (Some x) = exp_prop x

dims_prop : (d : NumberedDims) → IsProp (InDims d)
dims_prop (s.Domain x) = exp_prop x
dims_prop (s.Ranges ranges) = ranges_prop (numbered_ranges ranges)

init_prop : (value : NumberedInit) → IsProp (InInit value)
init_prop (s.Value x) = exp_prop x
init_prop (s.NewRegion at) = hlevel
init_prop (s.NewObject at region class) = option_prop region
init_prop (s.NewGrid at region element dims_at dims) = hlevel (option_prop region, dims_prop dims)
init_prop (s.Broadcast at x root) = hlevel (exp_prop x, exp_prop root)

print_prop : (what : NumberedPrint) → IsProp (InPrint what)
print_prop s.Nothing = hlevel
print_prop (s.Text literal) = hlevel
print_prop (s.Expression x) = exp_prop x
print_prop (s.TextAndExpression literal x) = exp_prop x

mutual
  stm_prop : (x : NumberedStm) → IsProp (InStm x)
  stm_prop (s.Declare at type variable value) = init_prop value
  stm_prop (s.Assign at target value) = hlevel (exp_prop target, init_prop value)
  stm_prop (s.Update at op target x) = hlevel (exp_prop target, exp_prop x)
  stm_prop (s.Step at op target) = exp_prop target
  stm_prop (s.Call x) = exp_prop x
  stm_prop (s.Print at what) = print_prop what
  stm_prop (s.Return at value) = option_prop value
  stm_prop (s.Block body) = stms_prop body
  stm_prop (s.If at c x) = hlevel (exp_prop c, stm_prop x)
  stm_prop (s.IfElse at c x y) = hlevel (exp_prop c, stm_prop x, stm_prop y)
  stm_prop (s.While at c body) = hlevel (exp_prop c, stm_prop body)
  stm_prop (s.For at first c update body) = hlevel (maybe_prop first, option_prop c, maybe_prop update, stm_prop body)
  stm_prop (s.Foreach at variable domain body) = hlevel (exp_prop domain, stm_prop body)
  stm_prop _ = hlevel

  maybe_prop : (x : MaybeNumbered) → IsProp (InMaybe x)
  maybe_prop s.NoStm = hlevel
  maybe_prop (s.SomeStm x) = stm_prop x

  stms_prop : (xs : NumberedStms) → IsProp (InStms xs)
  stms_prop s.Nil = hlevel
  stms_prop (s.Cons x rest) = hlevel (stm_prop x, stms_prop rest)

methods_prop : (ms : List NumberedMethod) → IsProp (InMethods ms)
methods_prop [] = hlevel
methods_prop (m ∷ ms) = hlevel (stms_prop (numbered_stms m.body), methods_prop ms)

pub one_way : (p : ProgramView) → IsProp (LiteralsFit p)
one_way p = methods_prop p.methods
