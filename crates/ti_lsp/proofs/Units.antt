-- Code units of UTF-16, counted on the bytes of UTF-8.
use Rattle.std.proofs.Common.{◌≡◌, ◌+◌, ◌%◌, ℕ, Bool, false, List, [], ◌∷◌, ◌++◌, length, refl, arith, count_by, length-append, cond}
use Rattle.std.proofs.lemmas.Bool.Decides.{nat_tests}
use Rattle.std.proofs.lemmas.List.Sums.{sum_by-append}
use Rattle.std.specs.Char.{encode_utf8}
use Rattle.std.specs.List.{flat_map}
use Rattle.std.specs.Str.{encode_utf8_all}
use Rattle.std.specs.Char.Escape.{encode_utf16}
use Rattle.ti_lsp.specs.Positions.{units_of, is_lead, is_long}
use Rattle.ti_lsp.specs.declared.position.PositionEncoding.TheVariants.{Utf16}

follows_lead : (x : ℕ) → is_lead (128 + x % 64) ≡ false
follows_lead x = grind (arith, nat_tests)

follows_long : (x : ℕ) → is_long (128 + x % 64) ≡ false
follows_long x = grind (arith, nat_tests)

pub of_char : (c : ℕ) → units_of Utf16 (encode_utf8 c) ≡ length (encode_utf16 c)
unfolding encode_utf8
of_char c = grind (arith, nat_tests, follows_lead, follows_long)

count_by-append : (p : ℕ → Bool) (xs ys : List ℕ) → count_by p (xs ++ ys) ≡ count_by p xs + count_by p ys
count_by-append p xs ys = sum_by-append (λ x. cond (p x) 1 0) xs ys

units-append : (xs ys : List ℕ) → units_of Utf16 (xs ++ ys) ≡ units_of Utf16 xs + units_of Utf16 ys
units-append xs ys = omega (arith, count_by-append is_lead xs ys, count_by-append is_long xs ys)

-- the code units of a text
pub of_chars : (cs : List ℕ) → units_of Utf16 (encode_utf8_all cs) ≡ length (flat_map encode_utf16 cs)
of_chars [] = refl
of_chars (c ∷ cs) =
    let rest = of_chars cs in
    let first = of_char c in
    omega (arith, units-append (encode_utf8 c) (encode_utf8_all cs), rest, first, length-append (encode_utf16 c) (flat_map encode_utf16 cs))
