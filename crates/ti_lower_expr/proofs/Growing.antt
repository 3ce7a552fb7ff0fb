-- Proves that pops, expressions and ranges that are appended one by one add up to the whole.
use Rattle.std.proofs.Common.{◌≡◌, ◌∙◌, refl, sym, ap, ℕ, ◌+◌, ◌<◌, suc, List, [], ◌∷◌, ◌++◌, map, drop, length, get_or, drop-cons, add-one, append_assoc, arith}
use Rattle.ti_lang.specs.declared.program.exprs.Expr.{Expr}
use Rattle.ti_lang.specs.declared.program.exprs.Range.{Range}
use Rattle.ti_lang.specs.Program.Expressions.{MoreExp, MoreRange, numbered_exps, numbered_ranges}
use Rattle.ti_lang.specs.Program.Views.{expression_of, bound_of}
use Rattle.ti_code.specs.declared.instr.Instr.{Instr}
use Rattle.ti_code.specs.declared.instr.Instr.TheVariants as i
use Rattle.ti_lower_expr.specs.Coding.{pops, how_many_ranges}

pub pops_more : (o p q : List Instr) (n m : ℕ) → n ≡ suc m → p ≡ o ++ i.Pop ∷ [] → o ++ pops n ≡ q → p ++ pops m ≡ q
pops_more o p q n m e is h = ap (λ z. z ++ pops m) is ∙ append_assoc o (i.Pop ∷ []) (pops m) ∙ sym (ap (λ k. o ++ pops k) e) ∙ h

-- ---- lists of expressions and of ranges

pub exps_at : (xs : List Expr) (i : ℕ) (d : Expr) → i < length xs
    → numbered_exps (map expression_of (drop i xs)) ≡ MoreExp (expression_of (get_or xs i d)) (numbered_exps (map expression_of (drop (i + 1) xs)))
exps_at xs i d h = ap (λ ys. numbered_exps (map expression_of ys)) (drop-cons xs i d h) ∙ rw add-one refl

pub ranges_at : (rs : List Range) (i : ℕ) (d : Range) → i < length rs
    → numbered_ranges (map bound_of (drop i rs)) ≡ MoreRange (bound_of (get_or rs i d)) (numbered_ranges (map bound_of (drop (i + 1) rs)))
ranges_at rs i d h = ap (λ ys. numbered_ranges (map bound_of ys)) (drop-cons rs i d h) ∙ rw add-one refl

pub count_ranges : (rs : List Range) → how_many_ranges (numbered_ranges (map bound_of rs)) ≡ length rs
count_ranges [] = refl
count_ranges (r ∷ rest) = let others = count_ranges rest in omega (arith, others)

pub ruleset counts = (count_ranges)
