-- The model's reading of number literals and dimensions is proved correct for the lexical syntax.
use Rattle.std.proofs.Common.{◌≡◌, ℕ, zero, suc, ◌+◌, ◌-◌, ◌*◌, ◌≤◌, ◌==◌, nat_le, min, Bool, true, false, not, ◌&&◌, ◌||◌, cond}
use Rattle.std.proofs.Common.{if◌then◌else◌, Option, Some, None, List, [], ◌∷◌, ◌++◌, length, take, drop, pos, inl, inr, refl, sym, ap, ◌∙◌}
use Rattle.std.proofs.Common.{subst, arith, take-append-drop, append_assoc, length-append}
use Rattle.std.proofs.Math.Seq.{take-append_seam, drop-append_seam}
use Rattle.std.proofs.lemmas.Bool.{and_parts, eqb-true}
use Rattle.std.proofs.lemmas.Bool.Decides.{nat_tests}
use Rattle.std.proofs.lemmas.List.Folds.{length-prefix_len}
use Rattle.std.specs.Char.{is_ascii_digit, digit_value}
use Rattle.std.specs.Int.{is_in_range}
use Rattle.std.specs.List.{list_all, prefix_len}
use Rattle.std.specs.Option.{option_map_or}
use Rattle.std.specs.Str.Parse.{digits_value, digits_value_after}
use Rattle.ti_syntax.specs.declared.token.TokenKind.TheVariants as k
use Rattle.ti_syntax.specs.Tokenizing.{Piece, Lexeme, WrongNumber, IsPiece, HasFlaw, first_passes, is_name_byte, is_long_letter, goes_on_number}
use Rattle.ti_syntax.specs.Tokenizing as pieces
use Rattle.ti_lex.specs.Mirrors.Reading.{Matches, Rejects, dimension, too_large, value_from, most_of, kind_of_number, letters, is_number, number_reading, digits, number_lexeme}
use Rattle.ti_lex.proofs.Fronts.{Beats, IsSound}
use Rattle.ti_lex.proofs.Runs.{run_ends, run_passes, run_stops}

-- a value is kept as it is up to a bound, and as the bound above it
capped_step : (v d : ℕ) → min (min v too_large * 10 + d) too_large ≡ min (v * 10 + d) too_large
capped_step v d = grind (arith, nat_tests)

-- a digit's value
digit : (b : ℕ) → is_ascii_digit b ≡ true → digit_value b ≡ b - 48
digit b h = grind (arith, nat_tests)

value_by : (b : ℕ) (l : List ℕ) (v n : ℕ) → ((w : ℕ) → value_from (min w too_large) l ≡ min (digits_value_after 10 w (take n l)) too_large)
    → (t : Bool) → is_ascii_digit b ≡ t → cond t (value_from (min (min v too_large * 10 + (b - 48)) too_large) l) (min v too_large)
    ≡ min (digits_value_after 10 v (take (cond t (1 + n) 0) (b ∷ l))) too_large
value_by b l v n more true h =
    let one : 1 + n ≡ suc n = omega arith in
    ap (λ m. value_from m l) (capped_step v (b - 48)) ∙ more (v * 10 + (b - 48))
    ∙ ap (λ d. min (digits_value_after 10 (v * 10 + d) (take n l)) too_large) (sym (digit b h))
    ∙ ap (λ m. min (digits_value_after 10 v (take m (b ∷ l))) too_large) (sym one)
value_by b l v n more false h = refl

-- the digits of a run are read as the number that they write, up to the bound
value_is : (l : List ℕ) (v : ℕ) → value_from (min v too_large) l ≡ min (digits_value_after 10 v (take (prefix_len is_ascii_digit l) l)) too_large
value_is [] v = refl
value_is (b ∷ l) v =
    value_by b l v (prefix_len is_ascii_digit l) (value_is l) (is_ascii_digit b) refl

-- what stands at the front where a dimension does
abbrev IsDimension : ℕ → List ℕ → Option ℕ → Type 0
IsDimension b l None = Unit {0}
IsDimension b l (Some n) =
    (is_in_range 49 51 b ≡ true) × (first_passes (λ d. d == 100) l ≡ true) × (first_passes is_name_byte (drop 1 l) ≡ false) × (n ≡ b - 48)

dimension_by : (b : ℕ) (l : List ℕ) (range d name : Bool) → is_in_range 49 51 b ≡ range → first_passes (λ d. d == 100) l ≡ d
    → first_passes is_name_byte (drop 1 l) ≡ name → IsDimension b l (if range && d && not name then Some (b - 48) else None)
dimension_by b l true true false h i j = (h, i, j, refl)
dimension_by b l true true true h i j = tt
dimension_by b l true false name h i j = tt
dimension_by b l false d name h i j = tt

dimension_is : (b : ℕ) (l : List ℕ) → IsDimension b l (dimension (b ∷ l))
dimension_is b l =
    dimension_by b l (is_in_range 49 51 b) (first_passes (λ d. d == 100) l) (first_passes is_name_byte (drop 1 l)) refl refl refl

d_no_digit : (b : ℕ) → (b == 100) ≡ true → is_ascii_digit b ≡ true → ⊥
d_no_digit b h i = grind (arith, nat_tests)

within_bound : (a b : ℕ) → a ≤ b → nat_le a b ≡ true
within_bound a b h = grind (arith, nat_tests)

below_bound : (a b : ℕ) → nat_le a b ≡ true → a ≤ b
below_bound a b h = grind (arith, nat_tests)

number_passes : (zero : Bool) (size most value : ℕ) → (zero ≡ true → size ≡ 1) → value ≤ most → is_number zero size most value ≡ true
number_passes true size most value one fits =
    ap (λ n. not (true && not (n == 1)) && nat_le value most) (one refl) ∙ within_bound value most fits
number_passes false size most value one fits = within_bound value most fits

-- a number that fits is below the bound
kept : (long : Bool) (v : ℕ) → v ≤ most_of long → min v too_large ≡ v
kept false v h = omega arith
kept true v h = omega arith

-- where neither a digit nor the letter stands behind a run, there is no digit, and there is no letter
no_more : (l : List ℕ) → first_passes goes_on_number l ≡ false → (first_passes is_ascii_digit l ≡ false) × (first_passes is_long_letter l ≡ false)
no_more [] h = (refl, refl)
no_more (b ∷ l) h = by (is_ascii_digit b) h
  where
    by : (t : Bool) → (t || is_long_letter b) ≡ false → (t ≡ false) × (is_long_letter b ≡ false)
    by true h = cc
    by false h = (refl, h)

no_more_from : (l : List ℕ) → first_passes is_ascii_digit l ≡ false → first_passes is_long_letter l ≡ false → first_passes goes_on_number l ≡ false
no_more_from [] h i = refl
no_more_from (b ∷ l) h i = ap (λ t. t || is_long_letter b) h ∙ i

letter_no_digit : (b : ℕ) → is_long_letter b ≡ true → is_ascii_digit b ≡ false
letter_no_digit b h = grind (arith, nat_tests)

letter_no_d : (b : ℕ) → is_long_letter b ≡ true → (b == 100) ≡ true → ⊥
letter_no_d b h i = grind (arith, nat_tests)

-- a run of digits, behind which no digit stands; `long` says whether the letter does
module _ (at digit : ℕ) (more rest : List ℕ) (long : Bool) (all : list_all is_ascii_digit (digit ∷ more) ≡ true) (stop : first_passes is_ascii_digit rest ≡ false) (letter : first_passes is_long_letter rest ≡ long) (no_zero : digit ≡ 48 → more ≡ []) (fits : digits_value 10 (digit ∷ more) ≤ most_of long) where
  size_is : prefix_len is_ascii_digit (digit ∷ (more ++ rest)) ≡ length (digit ∷ more)
  size_is = run_ends is_ascii_digit (digit ∷ more) rest all stop

  whole_value : value_from 0 (digit ∷ (more ++ rest)) ≡ digits_value 10 (digit ∷ more)
  whole_value =
      let front : take (prefix_len is_ascii_digit (digit ∷ (more ++ rest))) (digit ∷ (more ++ rest)) ≡ digit ∷ more =
      ap (λ n. take n (digit ∷ (more ++ rest))) size_is ∙ take-append_seam (digit ∷ more) rest in
      value_is (digit ∷ (more ++ rest)) 0 ∙ ap (λ t. min (digits_value 10 t) too_large) front ∙ kept long (digits_value 10 (digit ∷ more)) fits

  digits_read : digits at (digit ∷ (more ++ rest)) ≡ Matches (Lexeme (kind_of_number long (digits_value 10 (digit ∷ more)))) (at + length (digit ∷ more) + letters long)
  digits_read =
      let whole = digit ∷ (more ++ rest) in
      let front = digit ∷ more in
      let value = digits_value 10 front in
      let passes = number_passes (digit == 48) (length front) (most_of long) value (λ h. ap (λ t. length (digit ∷ t)) (no_zero (eqb-true digit 48 h))) fits in
      ap (λ n. number_reading at (digit == 48) n (value_from 0 whole) (first_passes is_long_letter (drop n whole))) size_is
      ∙ ap (λ v. number_reading at (digit == 48) (length front) v (first_passes is_long_letter (drop (length front) whole))) whole_value
      ∙ ap (λ r. number_reading at (digit == 48) (length front) value (first_passes is_long_letter r)) (drop-append_seam front rest)
      ∙ ap (number_reading at (digit == 48) (length front) value) letter
      ∙ ap (λ t. cond t (Matches (Lexeme (kind_of_number long value)) (at + length front + letters long)) (Rejects WrongNumber at)) passes

  d_behind : (l : List ℕ) → list_all is_ascii_digit l ≡ true → first_passes (λ d. d == 100) (l ++ rest) ≡ true → length l ≡ 0
  d_behind [] h i = refl
  d_behind (b ∷ l) h i =
      absurd (d_no_digit b i (and_parts (is_ascii_digit b) (list_all is_ascii_digit l) h).0)

module _ (at digit : ℕ) (more rest : List ℕ) (all : list_all is_ascii_digit (digit ∷ more) ≡ true) (no_zero : digit ≡ 48 → more ≡ []) where
  -- where a list begins with a whole number, that number is read, or a dimension that is longer
  pub number_beats : first_passes goes_on_number rest ≡ false → digits_value 10 (digit ∷ more) ≤ 2147483647
      → Beats at (length (digit ∷ more)) (Lexeme (k.Int (pos (digits_value 10 (digit ∷ more))))) (number_lexeme at (digit ∷ (more ++ rest)))
  number_beats stop fits = by (dimension (digit ∷ (more ++ rest))) (dimension_is digit (more ++ rest))
    where
      by : (found : Option ℕ) → IsDimension digit (more ++ rest) found
          → Beats at (length (digit ∷ more)) (Lexeme (k.Int (pos (digits_value 10 (digit ∷ more)))))
          (option_map_or (λ n. Matches (Lexeme (k.Dim n)) (at + 2)) found (digits at (digit ∷ (more ++ rest))))
      by (Some n) (range, d, name, value) =
          let behind = no_more rest stop in
          let none = d_behind at digit more rest false all behind.0 behind.1 no_zero fits more (and_parts (is_ascii_digit digit) (list_all is_ascii_digit more) all).1 d in
          inl (omega arith)
      by None h =
          let behind = no_more rest stop in
          subst (Beats at (length (digit ∷ more)) (Lexeme (k.Int (pos (digits_value 10 (digit ∷ more))))))
          (sym (digits_read at digit more rest false all behind.0 behind.1 no_zero fits)) (inr (omega arith, refl))

  -- where a list begins with a long number, that number is read
  pub long_beats : (letter : ℕ) → is_long_letter letter ≡ true → digits_value 10 (digit ∷ more) ≤ 9223372036854775807
      → Beats at (length ((digit ∷ more) ++ letter ∷ [])) (Lexeme (k.LongInt (pos (digits_value 10 (digit ∷ more))))) (number_lexeme at (((digit ∷ more) ++ letter ∷ []) ++ rest))
  long_beats letter is fits =
      subst (λ l. Beats at (length ((digit ∷ more) ++ letter ∷ [])) (Lexeme (k.LongInt (pos (digits_value 10 (digit ∷ more))))) (number_lexeme at l)) (sym (append_assoc (digit ∷ more) (letter ∷ []) rest))
      (by (dimension (digit ∷ (more ++ letter ∷ rest))) (dimension_is digit (more ++ letter ∷ rest)))
    where
      stop : first_passes is_ascii_digit (letter ∷ rest) ≡ false
      stop = letter_no_digit letter is

      none_behind : (l : List ℕ) → list_all is_ascii_digit l ≡ true → first_passes (λ d. d == 100) (l ++ letter ∷ rest) ≡ true → ⊥
      none_behind [] h i = letter_no_d letter is i
      none_behind (b ∷ l) h i = d_no_digit b i (and_parts (is_ascii_digit b) (list_all is_ascii_digit l) h).0

      by : (found : Option ℕ) → IsDimension digit (more ++ letter ∷ rest) found
          → Beats at (length ((digit ∷ more) ++ letter ∷ [])) (Lexeme (k.LongInt (pos (digits_value 10 (digit ∷ more)))))
          (option_map_or (λ n. Matches (Lexeme (k.Dim n)) (at + 2)) found (digits at (digit ∷ (more ++ letter ∷ rest))))
      by (Some n) (range, d, name, value) = absurd (none_behind more (and_parts (is_ascii_digit digit) (list_all is_ascii_digit more) all).1 d)
      by None h =
          let long : length ((digit ∷ more) ++ letter ∷ []) ≡ length (digit ∷ more) + 1 = omega (arith, length-append (digit ∷ more) (letter ∷ [])) in
          subst (Beats at (length ((digit ∷ more) ++ letter ∷ [])) (Lexeme (k.LongInt (pos (digits_value 10 (digit ∷ more))))))
          (sym (digits_read at digit more (letter ∷ rest) true all stop is no_zero fits)) (inr (omega arith, refl))

-- where a list begins with a dimension, that dimension is read
pub dimension_beats : (at n : ℕ) (rest : List ℕ) → 1 ≤ n → n ≤ 3 → first_passes is_name_byte rest ≡ false → Beats at 2 (Lexeme (k.Dim n)) (number_lexeme at ((n + 48) ∷ 100 ∷ rest))
dimension_beats at zero rest low high stop = absurd (omega arith)
dimension_beats at (suc zero) rest low high stop =
    subst (λ t. Beats at 2 (Lexeme (k.Dim 1)) (option_map_or (λ n. Matches (Lexeme (k.Dim n)) (at + 2)) (if not t then Some 1 else None) (digits at (49 ∷ 100 ∷ rest)))) (sym stop) (inr (refl, refl))
dimension_beats at (suc (suc zero)) rest low high stop =
    subst (λ t. Beats at 2 (Lexeme (k.Dim 2)) (option_map_or (λ n. Matches (Lexeme (k.Dim n)) (at + 2)) (if not t then Some 2 else None) (digits at (50 ∷ 100 ∷ rest)))) (sym stop) (inr (refl, refl))
dimension_beats at (suc (suc (suc zero))) rest low high stop =
    subst (λ t. Beats at 2 (Lexeme (k.Dim 3)) (option_map_or (λ n. Matches (Lexeme (k.Dim n)) (at + 2)) (if not t then Some 3 else None) (digits at (51 ∷ 100 ∷ rest)))) (sym stop) (inr (refl, refl))
dimension_beats at (suc (suc (suc (suc n)))) rest low high stop = absurd (omega arith)

in_range : (b : ℕ) → is_in_range 49 51 b ≡ true → (49 ≤ b) × (b ≤ 51)
in_range b h = (grind (arith, nat_tests), grind (arith, nat_tests))

module _ (at b : ℕ) (l : List ℕ) (first : is_ascii_digit b ≡ true) where
  value_bound : (n value : ℕ) → n ≡ prefix_len is_ascii_digit l → value ≡ value_from 0 (b ∷ l) → value ≡ min (digits_value 10 (b ∷ take n l)) too_large
  value_bound n value run is =
      let one : prefix_len is_ascii_digit (b ∷ l) ≡ suc n = ap (λ t. cond t (1 + prefix_len is_ascii_digit l) 0) first ∙ omega arith in
      is ∙ value_is (b ∷ l) 0 ∙ ap (λ m. min (digits_value 10 (take m (b ∷ l))) too_large) one

  leads : (n size : ℕ) → size ≡ suc n → not ((b == 48) && not (size == 1)) ≡ true → b ≡ 48 → take n l ≡ []
  leads n size h passes led =
      let one : size ≡ 1 = grind (arith, nat_tests) in
      let none : n ≡ 0 = omega arith in
      ap (λ m. take m l) none

  unbounded : (long : Bool) (v d : ℕ) → v ≤ most_of long → v ≡ min d too_large → d ≡ v
  unbounded false v d le e = omega arith
  unbounded true v d le e = omega arith

  -- a run of digits that is a number, with what stands behind it
  sound_by : (n value : ℕ) (behind : List ℕ) (long : Bool) → first_passes is_long_letter behind ≡ long → first_passes is_ascii_digit behind ≡ false → b ∷ l ≡ (b ∷ take n l) ++ behind
      → list_all is_ascii_digit (b ∷ take n l) ≡ true → (b ≡ 48 → take n l ≡ []) → digits_value 10 (b ∷ take n l) ≡ value → value ≤ most_of long
      → IsSound at (b ∷ l) (Matches (Lexeme (kind_of_number long value)) (at + length (b ∷ take n l) + letters long))
  sound_by n value behind false letter stop split all no_zero same below =
      let fits : digits_value 10 (b ∷ take n l) ≤ 2147483647 = omega (arith, same) in
      let piece = pieces.number b (take n l) {rest = behind} all (no_more_from behind stop letter) no_zero fits in
      (b ∷ take n l, behind, split, omega arith, omega arith, subst (λ v. IsPiece (b ∷ take n l) behind (Lexeme (k.Int (pos v)))) same piece)
  sound_by n value [] true letter stop split all no_zero same below = cc
  sound_by n value (x ∷ tail) true letter stop split all no_zero same below =
      let fits : digits_value 10 (b ∷ take n l) ≤ 9223372036854775807 = omega (arith, same) in
      let piece = pieces.long_number b (take n l) x {rest = tail} all letter no_zero fits in
      let long : length ((b ∷ take n l) ++ x ∷ []) ≡ length (b ∷ take n l) + 1 = omega (arith, length-append (b ∷ take n l) (x ∷ [])) in (
        (b ∷ take n l) ++ x ∷ [],
        tail,
        split ∙ sym (append_assoc (b ∷ take n l) (x ∷ []) tail),
        omega arith,
        omega arith,
        subst (λ v. IsPiece ((b ∷ take n l) ++ x ∷ []) tail (Lexeme (k.LongInt (pos v)))) same piece,
      )

  -- the run of digits at the front, by its size and by what stands behind it
  digits_by : (n size value : ℕ) (behind : List ℕ) (long : Bool) → n ≡ prefix_len is_ascii_digit l → size ≡ suc n → value
      ≡ value_from 0 (b ∷ l) → behind ≡ drop n l → first_passes is_long_letter behind ≡ long
      → (t : Bool) → is_number (b == 48) size (most_of long) value ≡ t → IsSound at (b ∷ l) (cond t (Matches (Lexeme (kind_of_number long value)) (at + size + letters long)) (Rejects WrongNumber at))
  digits_by n size value behind long run h is left letter false passes = (0, omega arith, pieces.wrong_number b l first)
  digits_by n size value behind long run h is left letter true passes =
      let (no_zero, small) = and_parts (not ((b == 48) && not (size == 1))) (nat_le value (most_of long)) passes in
      let bound = value_bound n value run is in
      let below : value ≤ most_of long = below_bound value (most_of long) small in
      let same : digits_value 10 (b ∷ take n l) ≡ value = unbounded long value (digits_value 10 (b ∷ take n l)) below bound in
      let all : list_all is_ascii_digit (take n l) ≡ true = subst (λ m. list_all is_ascii_digit (take m l) ≡ true) (sym run) (run_passes is_ascii_digit l) in
      let stop : first_passes is_ascii_digit behind ≡ false = subst (λ r. first_passes is_ascii_digit r ≡ false) (sym left)
      (subst (λ m. first_passes is_ascii_digit (drop m l) ≡ false) (sym run) (run_stops is_ascii_digit l)) in
      let size_of : length (take n l) ≡ n = subst (λ m. length (take m l) ≡ m) (sym run) (length-prefix_len is_ascii_digit l) in
      let size_is : length (b ∷ take n l) ≡ size = omega arith in
      let split : b ∷ l ≡ (b ∷ take n l) ++ behind = ap (λ t. b ∷ t) (sym (take-append-drop n l) ∙ ap (λ r. take n l ++ r) (sym left)) in
      subst (λ m. IsSound at (b ∷ l) (Matches (Lexeme (kind_of_number long value)) (at + m + letters long))) size_is
      (sound_by n value behind long letter stop split (ap (λ t. t && list_all is_ascii_digit (take n l)) first ∙ all) (leads n size h no_zero) same below)

  dimension_piece : (n : ℕ) (l : List ℕ) → is_in_range 49 51 b ≡ true → first_passes (λ d. d == 100) l ≡ true
      → first_passes is_name_byte (drop 1 l) ≡ false → n ≡ b - 48 → IsSound at (b ∷ l) (Matches (Lexeme (k.Dim n)) (at + 2))
  dimension_piece n [] range d name value = cc
  dimension_piece n (e ∷ rest) range d name value =
      let (low, high) = in_range b range in
      let number : n + 48 ≡ b = omega arith in
      let piece = pieces.dimension n {rest = rest} (omega arith) (omega arith) name in
      let at_b : IsPiece (b ∷ 100 ∷ []) rest (Lexeme (k.Dim n)) = subst (λ x. IsPiece (x ∷ 100 ∷ []) rest (Lexeme (k.Dim n))) number piece in
      (b ∷ e ∷ [], rest, refl, omega arith, omega arith, subst (λ x. IsPiece (b ∷ x ∷ []) rest (Lexeme (k.Dim n))) (sym (eqb-true e 100 d)) at_b)

  -- a number or a dimension that is read stands at the front
  pub number_sound : IsSound at (b ∷ l) (number_lexeme at (b ∷ l))
  number_sound = by (dimension (b ∷ l)) (dimension_is b l)
    where
      by : (found : Option ℕ) → IsDimension b l found → IsSound at (b ∷ l) (option_map_or (λ n. Matches (Lexeme (k.Dim n)) (at + 2)) found (digits at (b ∷ l)))
      by (Some n) (range, d, name, value) = dimension_piece n l range d name value
      by None h =
          let one : prefix_len is_ascii_digit (b ∷ l) ≡ suc (prefix_len is_ascii_digit l) = ap (λ t. cond t (1 + prefix_len is_ascii_digit l) 0) first ∙ omega arith in
          let size = prefix_len is_ascii_digit (b ∷ l) in
          let behind = drop size (b ∷ l) in
          let left : behind ≡ drop (prefix_len is_ascii_digit l) l = ap (λ m. drop m (b ∷ l)) one in
          let long = first_passes is_long_letter behind in
          digits_by (prefix_len is_ascii_digit l) size (value_from 0 (b ∷ l)) behind long refl one refl left refl (is_number (b == 48) size (most_of long) (value_from 0 (b ∷ l))) refl
