-- Proves which points the rectangular domain with one point for each process has.
use Rattle.std.proofs.Common.{◌≡◌, ℕ, zero, suc, ◌+◌, ◌≤◌, ◌/◌, ℤ, pos, ◌+ℤ◌, ◌-ℤ◌, ◌||◌, if◌then◌else◌, Bool, true, false, List, [], ◌∷◌, map, flat_map, refl, ap, ◌∙◌, arith}
use Rattle.std.specs.Int.RustNames.{int_lt}
use Rattle.std.proofs.lemmas.Int.{ints}
use Rattle.ti_base.specs.declared.point.Point.{Point}
use Rattle.ti_base.specs.declared.point.Rect.{Rect}
use Rattle.ti_base.specs.Ranges.{Range, natural, count_on, numbers_from, last_of, range_of, tidy, unused_range}
use Rattle.ti_base.specs.Rects.{points_of, empty_rect, of_ranges}
use Rattle.ti_lang.specs.Meaning.Copies.{element_at, count_up}
use Rattle.ti_lang.specs.Meaning.Collectives.{team}

-- ---- its range

-- so many numbers from one on
numbers_counted : (i n : ℕ) → numbers_from (pos i) 1 n ≡ map pos (count_up i n)
numbers_counted i zero = refl
numbers_counted i (suc n) =
    let next : pos i +ℤ pos 1 ≡ pos (i + 1) = omega (arith, ints) in
    ap (λ l. pos i ∷ l) (ap (λ x. numbers_from x 1 n) next ∙ numbers_counted (i + 1) n)

last_counted : (i n : ℕ) → last_of (pos i) (numbers_from (pos i +ℤ pos 1) 1 n) ≡ pos (i + n)
last_counted i zero = let same : i ≡ i + 0 = omega arith in ap pos same
last_counted i (suc n) =
    let next : pos i +ℤ pos 1 ≡ pos (i + 1) = omega (arith, ints) in
    let same : (i + 1) + n ≡ i + suc n = omega arith in
    ap (λ x. last_of x (numbers_from (x +ℤ pos 1) 1 n)) next ∙ last_counted (i + 1) n ∙ ap pos same

-- the numbers up to one
abbrev up_to : ℤ → Range
up_to high = record { low = pos 0; high = high; step = 1 }

how_many : (m : ℕ) (high : ℤ) → high ≡ pos m → count_on (up_to high) ≡ suc m
how_many m high e =
    let whole : (high -ℤ pos 0) +ℤ pos 1 ≡ pos (suc m) = omega (arith, ints, e) in
    ap (λ x. natural x / 1) whole ∙ omega arith

range_up_to : (m : ℕ) → range_of (numbers_from (pos 0) 1 (suc m)) ≡ up_to (pos m)
range_up_to zero = refl
range_up_to (suc m) =
    let same : 1 + m ≡ suc m = omega arith in
    ap up_to (last_counted 1 m ∙ ap pos same)

tidied : (m : ℕ) → tidy (up_to (pos (suc m) -ℤ pos 1)) ≡ up_to (pos m)
tidied m =
    let high : pos (suc m) -ℤ pos 1 ≡ pos m = omega (arith, ints) in
    ap (λ n. range_of (numbers_from (pos 0) 1 n)) (how_many m (pos (suc m) -ℤ pos 1) high) ∙ range_up_to m

-- ---- its points

abbrev of_first : ℤ → Point
of_first x = record { dim = 1; x1 = x; x2 = pos 0; x3 = pos 0 }

abbrev row : ℤ → Rect
row high = record { dim = 1; lo = of_first (pos 0); hi = of_first high; step = 1 ∷ 1 ∷ 1 ∷ [] }

row_made : (m : ℕ) → of_ranges 1 (up_to (pos m)) unused_range unused_range ≡ row (pos m)
row_made m = ap (λ b. if (b || false) || false then empty_rect 1 else row (pos m)) some
  where
    some : int_lt (pos m) (pos 0) ≡ false
    some = by (int_lt (pos m) (pos 0)) refl
      where
        by : (b : Bool) → int_lt (pos m) (pos 0) ≡ b → b ≡ false
        by true e = absurd (omega (arith, ints))
        by false e = refl

each_alone : (xs : List ℕ) → flat_map (λ x. of_first x ∷ []) (map pos xs) ≡ map element_at xs
each_alone [] = refl
each_alone (x ∷ xs) = ap (λ l. element_at x ∷ l) (each_alone xs)

row_points : (m : ℕ) → points_of (row (pos m)) ≡ map element_at (count_up 0 (suc m))
row_points m = ap (λ n. flat_map (λ x. of_first x ∷ []) (numbers_from (pos 0) 1 n)) (how_many m (pos m) refl)
    ∙ ap (λ l. flat_map (λ x. of_first x ∷ []) l) (numbers_counted 0 (suc m)) ∙ each_alone (count_up 0 (suc m))

-- the points of the team are the elements of its processes, in order
pub team_points : (n : ℕ) → 1 ≤ n → points_of (team n) ≡ map element_at (count_up 0 n)
team_points zero few = absurd (omega (arith, few))
team_points (suc m) few = ap (λ r. points_of (of_ranges 1 r unused_range unused_range)) (tidied m) ∙ ap points_of (row_made m) ∙ row_points m
