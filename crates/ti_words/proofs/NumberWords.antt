-- The test of the code for numbers agrees with the specification, and a number that doesn't parse as `u32` is too large.
use Rattle.std.proofs.Common.{◌≡◌, inl, inr, ℕ, ◌<◌, ◌≤◌, ◌^◌, true, false, ◌==◌, List, length, None, Err, arith, rules, refl}
use Rattle.std.specs.Char.{is_ascii_digit}
use Rattle.std.specs.List.{list_all}
use Rattle.std.specs.Str.Parse.{ParsesUnsigned}
use Rattle.std.proofs.lemmas.Bool.Decides.{leb_tells, eqb_tells}
use Rattle.std.proofs.lemmas.Str.Parse.{IsNumeralModel, numerals_by_value, parse_digits}
use Rattle.ti_words.specs.Job.{is_number_word, number_in, decimal_value}

-- a word of 1 to 10 bytes is a number where each byte is a digit
pub number_by_digits : (word : List ℕ) → false ≡ (length word == 0) → length word ≤ 10 → is_number_word word ≡ list_all is_ascii_digit word
number_by_digits word some few =
    elim (leb_tells 1 (length word)) [
      | inl low ↦ elim (leb_tells (length word) 10) [ inl high ↦ rw (low.0, high.0) refl | inr high ↦ absurd (omega arith) ]
      | inr low ↦ absurd (elim (eqb_tells (length word) 0) [ inl none ↦ let e = none.0 in cc | inr other ↦ omega (arith, other.1) ])
    ]

-- digits and what they write
digits : IsNumeralModel (λ ds. list_all is_ascii_digit ds ≡ true) decimal_value
digits = numerals_by_value _ (search rules)

some_digits : (word : List ℕ) → is_number_word word ≡ true → 0 < length word
some_digits word is = elim (leb_tells 1 (length word)) [ inl low ↦ low.1 | inr low ↦ absurd (let e = low.0 in let h = rw low.0 at is in cc) ]

-- a word that is a number but isn't parsed is too large
pub number_in-not_parsed : {E : Type 0} (least most : ℕ) (word : List ℕ) (e : E) → most < 2 ^ 32 → is_number_word word ≡ true → ParsesUnsigned 32 10 word (Err e) → number_in least most word ≡ None
number_in-not_parsed least most word e bound is parsed =
    elim (leb_tells (decimal_value word) most) [
      | inl small ↦ absurd (parse_digits digits 32 word (Err e) parsed (let h = is in search rules) (some_digits word is, omega arith))
      | inr large ↦ elim (leb_tells least (decimal_value word)) [ inl low ↦ rw (is, low.0, large.0) refl | inr low ↦ rw (is, low.0) refl ]
    ]
