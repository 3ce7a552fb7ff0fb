-- Proves facts on the first position of a list whose element passes a test.
use Rattle.std.proofs.Common.{◌≡◌, ℕ, suc, ◌+◌, ◌≤◌, nat_lt, Bool, true, false, not, cond, List, [], ◌∷◌, length, Option, Some, None, position, refl, arith}
use Rattle.std.specs.List.{position_or_len}
use Rattle.std.proofs.lemmas.Bool.Decides.{nat_tests}

most : {A : Type 0} (t : A → Bool) (xs : List A) → position_or_len t xs ≤ length xs
most t [] = omega arith
most t (x ∷ xs) = by (t x) (most t xs)
  where
    by : (b : Bool) → position_or_len t xs ≤ length xs → cond (not b) (1 + position_or_len t xs) 0 ≤ suc (length xs)
    by true le = omega arith
    by false le = omega (arith, le)

none_some : (n : ℕ) → ◌≡◌ {A = Option ℕ} None (Some n) → ⊥
none_some n e = cc

some_none : (n : ℕ) → ◌≡◌ {A = Option ℕ} (Some n) None → ⊥
some_none n e = cc

same_some : (n k : ℕ) → Some n ≡ Some k → k ≡ n
same_some n k e = cc

-- the number of the first that passes is its place
pub place_found : {A : Type 0} (t : A → Bool) (xs : List A) (n : ℕ) → position t xs ≡ Some n → n ≡ position_or_len t xs
place_found t xs n = by (nat_lt (position_or_len t xs) (length xs))
  where
    by : (b : Bool) → cond b (Some (position_or_len t xs)) None ≡ Some n → n ≡ position_or_len t xs
    by true e = same_some (position_or_len t xs) n e
    by false e = absurd (none_some n e)

-- where none passes, its place is behind all
pub no_place : {A : Type 0} (t : A → Bool) (xs : List A) → position t xs ≡ None → length xs ≡ position_or_len t xs
no_place t xs = by (nat_lt (position_or_len t xs) (length xs)) refl
  where
    by : (b : Bool) → nat_lt (position_or_len t xs) (length xs) ≡ b → cond b (Some (position_or_len t xs)) None ≡ None → length xs ≡ position_or_len t xs
    by true is e = absurd (some_none (position_or_len t xs) e)
    by false is e =
        let least : length xs ≤ position_or_len t xs = grind (arith, nat_tests, is) in
        let all : position_or_len t xs ≤ length xs = most t xs in
        omega (arith, least, all)
