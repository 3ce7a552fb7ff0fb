-- The code's byte classes are proved to be those of the lexical syntax.
use Rattle.std.proofs.Common.{◌≡◌, ◌≢◌, ℕ, ◌==◌, true, false, refl, arith}
use Rattle.std.proofs.lemmas.Bool.{cond_both}
use Rattle.std.proofs.lemmas.Bool.Decides.{nat_tests}
use Rattle.std.specs.Char.{is_ascii_digit}
use Rattle.ti_syntax.specs.Tokenizing.{is_blank, begins_name}
use Rattle.ti_lex.specs.declared.byte_class.ByteClass.{ByteClass}
use Rattle.ti_lex.specs.declared.byte_class.ByteClass.TheVariants as c
use Rattle.ti_lex.specs.Mirrors.Reading.{class_of_byte}

pub class_of_byte-blank : (b : ℕ) → is_blank b ≡ true → class_of_byte b ≡ c.Blank
class_of_byte-blank b h = rw h refl

letter_no_blank : (b : ℕ) → begins_name b ≡ true → is_blank b ≡ false
letter_no_blank b h = grind (arith, nat_tests)

digit_no_blank : (b : ℕ) → is_ascii_digit b ≡ true → is_blank b ≡ false
digit_no_blank b h = grind (arith, nat_tests)

digit_no_letter : (b : ℕ) → is_ascii_digit b ≡ true → begins_name b ≡ false
digit_no_letter b h = grind (arith, nat_tests)

pub class_of_byte-letter : (b : ℕ) → begins_name b ≡ true → class_of_byte b ≡ c.Letter
class_of_byte-letter b h = rw (letter_no_blank b h, h) refl

pub class_of_byte-digit : (b : ℕ) → is_ascii_digit b ≡ true → class_of_byte b ≡ c.Digit
class_of_byte-digit b h = rw (digit_no_blank b h, digit_no_letter b h, h) refl

-- what a class says of its bytes
abbrev pub IsOfClass : ℕ → ByteClass → Type 0
IsOfClass b c.Blank = is_blank b ≡ true
IsOfClass b c.Letter = begins_name b ≡ true
IsOfClass b c.Digit = is_ascii_digit b ≡ true
IsOfClass b c.Quote = b ≡ 34
IsOfClass b c.Slash = b ≡ 47
IsOfClass b c.Other = (is_ascii_digit b ≡ false) × (b ≢ 34) × (b ≢ 47)

equal : (b n : ℕ) → (b == n) ≡ true → b ≡ n
equal b n h = grind (arith, nat_tests)

apart : (b n : ℕ) → (b == n) ≡ false → b ≢ n
apart b n h = grind (arith, nat_tests)

pub class_of_is : (b : ℕ) → IsOfClass b (class_of_byte b)
class_of_is b =
    let P : ByteClass → Type 0 = IsOfClass b in
    cond_both (is_blank b) c.Blank _ P (λ h. h) (λ _. cond_both (begins_name b) c.Letter _ P (λ h. h)
    (λ _. cond_both (is_ascii_digit b) c.Digit _ P (λ h. h) (λ digit. cond_both (b == 34) c.Quote _ P (equal b 34)
    (λ quote. cond_both (b == 47) c.Slash c.Other P (equal b 47) (λ slash. (digit, apart b 34 quote, apart b 47 slash))))))
