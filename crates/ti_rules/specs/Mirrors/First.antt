-- The first error of a list, as a fold.
use Rattle.std.specs.Prelude.{if◌then◌else◌, List, [], ◌∷◌, Option, Some, None}
use Rattle.ti_rules.specs.declared.refusal.Refusal.{Refusal}
use Rattle.ti_rules.specs.Refusals.{counts_before}

-- the earlier of two errors; the first argument on a tie
unfoldable pub earlier_of : Option Refusal → Option Refusal → Option Refusal
earlier_of None s = s
earlier_of (Some r) None = Some r
earlier_of (Some r) (Some s) = if counts_before s r then Some s else Some r

-- the earliest error of a list; the first of them on a tie
unfoldable pub earliest : List Refusal → Option Refusal
earliest [] = None
earliest (r ∷ rest) = earlier_of (Some r) (earliest rest)
