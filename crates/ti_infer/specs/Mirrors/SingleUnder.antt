-- Mirrors the code, for contracts of private functions: which expressions are single if a test decides which variables are.
use Rattle.std.specs.Prelude.{ℕ, Bool, true, false, not, ◌&&◌, Option}
use Rattle.ti_lang.specs.Program.Types.{Declaration, Typed, Foreach}
use Rattle.ti_lang.specs.Program.Expressions.{NumberedExp, NumberedExps, NumberedRange, NumberedRanges}
use Rattle.ti_lang.specs.Program.Expressions as x
use Rattle.ti_lang.specs.Program.Classes.{NumberedMethod, ProgramView}
use Rattle.ti_lang.specs.Typing.Kinds.{is_local, is_point_type}
use Rattle.ti_lang.specs.Typing.TextTypes.{syntactic_type}
use Rattle.ti_lang.specs.Typing.Called.{member_called}
use Rattle.ti_lang.specs.Typing.Singleness.{tells_of_domain}
use Rattle.ti_blame.specs.Marks.{Marks}
use Rattle.ti_infer.specs.Marks.{marks_variable}

-- a declared variable is single if it is annotated, one of a foreach as its scope states
abbrev pub variable_under : Marks → NumberedMethod → (ℕ → Bool) → ℕ → Declaration → Bool
variable_under marks m singles number (Typed is_single type) = marks_variable marks m number
variable_under marks m singles number Foreach = singles number

module _ (program : ProgramView) (this : Option ℕ) (test : ℕ → Declaration → Bool) where
  abbrev mutual
    pub single_under : NumberedExp → Bool
    single_under (x.Int at n) = true
    single_under (x.Long at n) = true
    single_under (x.Truth at b) = true
    single_under (x.NumProcs at) = true
    single_under (x.Variable at v) = test v.number v.declared
    single_under (x.Point at xs) = all_under xs
    single_under (x.Rect at ranges) = ranges_under ranges
    single_under (x.Unary at op a) = single_under a
    single_under (x.Binary at op a b) = single_under a && single_under b
    single_under (x.Cast at to a) = not (is_local to.type) && single_under a
    single_under (x.Index at a xs) = is_point_type (syntactic_type program this a) && (single_under a && all_under xs)
    single_under (x.Member at a name args) = tells_of_domain (member_called program this a name) && (single_under a && all_under args)
    single_under e = false

    pub all_under : NumberedExps → Bool
    all_under x.NoExp = true
    all_under (x.MoreExp a rest) = single_under a && all_under rest

    pub range_under : NumberedRange → Bool
    range_under (x.Plain low high) = single_under low && single_under high
    range_under (x.Stepped low high step) = (single_under low && single_under high) && single_under step

    pub ranges_under : NumberedRanges → Bool
    ranges_under x.NoRange = true
    ranges_under (x.MoreRange r rest) = range_under r && ranges_under rest
