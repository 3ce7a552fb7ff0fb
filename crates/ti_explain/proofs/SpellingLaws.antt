-- Lemmas on the letters with which two names begin.
use Rattle.std.proofs.Common.{◌≡◌, ◌≢◌, ℕ, ◌+◌, ◌<◌, ◌≤◌, ◌==◌, true, false, if◌then◌else◌, List, [], ◌∷◌, drop, length, get_or, refl, ap, sym, ◌∙◌, add-one, eq-eqb, ne_eqb}
use Rattle.std.proofs.Math.Seq.{drop-cons}
use Rattle.std.proofs.lemmas.List.{drop_all}
use Rattle.ti_explain.specs.NearSpelling.{letter_pair, differing}

-- lists that begin with one letter
same_first : (x y : ℕ) (xs ys : List ℕ) → x ≡ y → differing (x ∷ xs) (y ∷ ys) ≡ differing xs ys
same_first x y xs ys is = ap (λ b. if b then differing xs ys else letter_pair (x ∷ xs) (y ∷ ys)) (eq-eqb x y is)

other_first : (x y : ℕ) (xs ys : List ℕ) → (x == y) ≡ false → differing (x ∷ xs) (y ∷ ys) ≡ letter_pair (x ∷ xs) (y ∷ ys)
other_first x y xs ys is = ap (λ b. if b then differing xs ys else letter_pair (x ∷ xs) (y ∷ ys)) is

-- ---- at an index

at : (xs : List ℕ) (i : ℕ) → i < length xs → drop i xs ≡ get_or xs i 0 ∷ drop (i + 1) xs
at xs i lt = drop-cons xs i 0 lt ∙ ap (λ j. get_or xs i 0 ∷ drop j xs) (sym (add-one i))

-- the letters at the index are equal
pub one_further : (xs ys : List ℕ) (i : ℕ) → i < length xs → i < length ys → get_or xs i 0 ≡ get_or ys i 0
    → differing (drop i xs) (drop i ys) ≡ differing (drop (i + 1) xs) (drop (i + 1) ys)
one_further xs ys i lt lt' is =
    (λ j. differing (at xs i lt j) (at ys i lt' j)) ∙ same_first (get_or xs i 0) (get_or ys i 0) (drop (i + 1) xs) (drop (i + 1) ys) is

-- they differ
pub differ_here : (xs ys : List ℕ) (i : ℕ) → i < length xs → i < length ys → (get_or xs i 0 ≡ get_or ys i 0 → ⊥)
    → differing (drop i xs) (drop i ys) ≡ letter_pair (drop i xs) (drop i ys)
differ_here xs ys i lt lt' ne =
    (λ j. differing (at xs i lt j) (at ys i lt' j))
    ∙ other_first (get_or xs i 0) (get_or ys i 0) (drop (i + 1) xs) (drop (i + 1) ys) (ne_eqb (get_or xs i 0) (get_or ys i 0) ne)
    ∙ (λ j. letter_pair (sym (at xs i lt) j) (sym (at ys i lt') j))

no_other : (xs : List ℕ) → differing xs [] ≡ letter_pair xs []
no_other [] = refl
no_other (x ∷ xs) = refl

-- the second one ends here
pub other_ended : (xs ys : List ℕ) (i : ℕ) → length ys ≤ i → differing (drop i xs) (drop i ys) ≡ letter_pair (drop i xs) (drop i ys)
other_ended xs ys i le =
    ap (differing (drop i xs)) (drop_all i ys le) ∙ no_other (drop i xs) ∙ ap (λ l. letter_pair (drop i xs) (l)) (sym (drop_all i ys le))

-- the first one ends here
pub one_ended : (xs ys : List ℕ) (i : ℕ) → length xs ≤ i → differing (drop i xs) (drop i ys) ≡ letter_pair (drop i xs) (drop i ys)
one_ended xs ys i le = ap (λ l. differing l (drop i ys)) (drop_all i xs le) ∙ ap (λ l. letter_pair l (drop i ys)) (sym (drop_all i xs le))
