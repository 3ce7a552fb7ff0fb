-- The dimensions of a literal, and the number of its coordinates, are determined by the lengths of the lists in the code.
use Rattle.std.proofs.Common.{◌≡◌, ℕ, List, [], ◌∷◌, map, length, get_or, Option, refl, sym, arith}
use Rattle.ti_lang.specs.declared.program.exprs.Expr.{Expr}
use Rattle.ti_lang.specs.declared.program.exprs.Range.{Range}
use Rattle.ti_lang.specs.Program.Expressions.{numbered_exps, numbered_ranges}
use Rattle.ti_lang.specs.Program.Classes.{ProgramView}
use Rattle.ti_lang.specs.Program.Views.{expression_of, bound_of}
use Rattle.ti_lang.specs.Typing.Expressions.{range_count}
use Rattle.ti_lang.specs.Typing.TextTypes.{how_many, dims_of_range, dims_of_ranges}

pub count_ranges : (rs : List Range) → length rs ≡ range_count (numbered_ranges (map bound_of rs))
count_ranges [] = refl
count_ranges (r ∷ rest) = let others = count_ranges rest in omega (arith, others)

-- a single range tells the dimensions itself
pub one_range : (program : ProgramView) (this : Option ℕ) (dims : ℕ → ℕ) (rs : List Range) (d : Range) → length rs ≡ 1
    → dims_of_ranges program this dims (numbered_ranges (map bound_of rs)) ≡ dims_of_range program this dims (bound_of (get_or rs 0 d))
one_range program this dims [] d is = absurd (omega (arith, is))
one_range program this dims (r ∷ []) d is = refl
one_range program this dims (r ∷ q ∷ rest) d is = absurd (omega (arith, is))

-- several are one each, and none are none
pub many_ranges : (program : ProgramView) (this : Option ℕ) (dims : ℕ → ℕ) (rs : List Range) → (length rs ≡ 1 → ⊥)
    → dims_of_ranges program this dims (numbered_ranges (map bound_of rs)) ≡ length rs
many_ranges program this dims [] differs = refl
many_ranges program this dims (r ∷ []) differs = absurd (differs refl)
many_ranges program this dims (r ∷ q ∷ rest) differs = sym (count_ranges (r ∷ q ∷ rest))

pub ruleset range_dims = (one_range, many_ranges)

-- as many coordinates as the list has
pub count_arguments : (xs : List Expr) → how_many (numbered_exps (map expression_of xs)) ≡ length xs
count_arguments [] = refl
count_arguments (x ∷ rest) = let others = count_arguments rest in omega (arith, others)

pub ruleset many_arguments = (count_arguments)
