-- Small numbers in decimal digits.
use Rattle.std.proofs.Common.{◌≡◌, ◌≢◌, ◌∙◌, inl, inr, ℕ, suc, ◌+◌, ◌*◌, ◌/◌, ◌%◌, ◌<◌, ◌≤◌, List, [], ◌∷◌, ◌++◌, length, get_or, Option, Some, None, sym, ap, arith}
use Rattle.std.specs.Prelude.{decimal, MatchOption}
use Rattle.std.specs.Borrow.{Bor}
use Rattle.std.proofs.lemmas.Bool.{cases_lt}
use Rattle.std.proofs.lemmas.Fmt.{decimal_digit, decimal_step}

-- a number of one digit before a blank
pub one_digit : (n : ℕ) (more text : List ℕ) → n < 10 → text ≡ decimal n ++ 32 ∷ more → text ≡ (48 + n) ∷ 32 ∷ more
one_digit n more text small z = z ∙ ap (λ ds. ds ++ 32 ∷ more) (decimal_digit n small)

-- one of two
pub two_digits : (n : ℕ) (more text : List ℕ) → 10 ≤ n → n < 100 → text ≡ decimal n ++ 32 ∷ more → text ≡ (48 + n / 10) ∷ (48 + n % 10) ∷ 32 ∷ more
two_digits n more text big small z =
    z ∙ ap (λ ds. ds ++ 32 ∷ more) (decimal_step n big (omega arith) ∙ ap (λ ds. ds ++ (48 + n % 10) ∷ []) (decimal_digit (n / 10) (omega arith)))

none_short : (k l : ℕ) → l ≡ suc (suc k) → l < 2 → ⊥
none_short k l e m = absurd (omega (arith, e, m))

-- such a text has two bytes at least
pub too_short : (n : ℕ) (more text : List ℕ) → n < 100 → text ≡ decimal n ++ 32 ∷ more → length text < 2 → ⊥
too_short n more text small z short = elim (cases_lt n 10) [
  | inl one ↦ none_short (length more) (length text) (ap length (one_digit n more text one z)) short
  | inr two ↦ none_short (suc (length more)) (length text) (ap length (two_digits n more text two small z)) short
]

-- where the second is a blank, the first is its digit
pub one_read : (n : ℕ) (more text : List ℕ) (r : ℕ) → n < 100 → text ≡ decimal n ++ 32 ∷ more → get_or text 1 0 ≡ 32 → ((d : ℕ) → get_or text 0 0 ≡ 48 + d → r ≡ d) → r ≡ n
one_read n more text r small z blank value = elim (cases_lt n 10) [
  | inl one ↦ value n (ap (λ t. get_or t 0 0) (one_digit n more text one z))
  | inr two ↦ absurd (apart (n % 10) (sym blank ∙ ap (λ t. get_or t 1 0) (two_digits n more text two small z)))
]
  where
    apart : (k : ℕ) → 32 ≡ 48 + k → ⊥
    apart k e = absurd (omega (arith, e))

-- and else the two are its digits
pub two_read : (n : ℕ) (more text : List ℕ) (r t : ℕ) → n < 100 → text ≡ decimal n ++ 32 ∷ more → (get_or text 1 0 ≡ 32 → ⊥)
    → ((d : ℕ) → get_or text 0 0 ≡ 48 + d → r ≡ d) → ((d : ℕ) → get_or text 1 0 ≡ 48 + d → t ≡ d) → r * 10 + t ≡ n
two_read n more text r t small z other first second = elim (cases_lt n 10) [
  | inl one ↦ absurd (other (ap (λ t. get_or t 1 0) (one_digit n more text one z)))
  | inr two ↦
      let same = two_digits n more text two small z in
      both n r t (first (n / 10) (ap (λ t. get_or t 0 0) same)) (second (n % 10) (ap (λ t. get_or t 1 0) same))
]
  where
    both : (n r t : ℕ) → r ≡ n / 10 → t ≡ n % 10 → r * 10 + t ≡ n
    both n r t h k = omega (arith, h, k)

-- a line that doesn't begin so
pub not_so : (s p : List ℕ) (r : Option (Bor (List ℕ))) → MatchOption r ((rest : List ℕ) → s ≢ p ++ rest) (λ x. s ≡ p ++ x.now) → r ≡ None → (rest : List ℕ) → s ≡ p ++ rest → ⊥
not_so s p None h e rest z = h rest z
not_so s p (Some x) h e rest z = cc
