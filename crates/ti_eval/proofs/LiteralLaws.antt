-- Proves that points and rectangular domains made from numbers are those of the semantics.
use Rattle.std.proofs.Common.{◌≡◌, ◌∙◌, refl, sym, ap, ⊎_elim, ℕ, ◌≤◌, ◌==◌, nat_le, ℤ, pos, ◌≤ℤ◌, int_le, Bool, true, false, ◌&&◌, List, [], ◌∷◌, length, arith}
use Rattle.std.specs.List.{list_all}
use Rattle.std.proofs.lemmas.Int.{ints}
use Rattle.std.proofs.lemmas.Bool.Decides.{nat_tests}
use Rattle.ti_base.specs.Rects.{HasBadStride}
use Rattle.ti_base.specs.Forms.{is_dim}
use Rattle.ti_lang.specs.Meaning.Literals.{Bounds, is_even, point_of_numbers}

le_from : (a b : ℤ) → int_le a b ≡ true → a ≤ℤ b
le_from a b e = grind (arith, ints)

both_true : (a b : Bool) → (a && b) ≡ true → (a ≡ true) × (b ≡ true)
both_true true b e = (refl, e)
both_true false b e = absurd (let c : false ≡ true = e in cc)

dim_of_list : (xs : List ℤ) → is_dim (length xs) ≡ true → (point_of_numbers xs).dim ≡ length xs
dim_of_list xs h = rw h refl

same_count : (n m : ℕ) → (n == m) ≡ true → n ≡ m
same_count n m h = grind (arith, nat_tests)

-- the parts of what is even
parts_even : (b : Bounds) → is_even b ≡ true → (is_dim (length b.low) ≡ true) × (length b.high ≡ length b.low) × (length b.step ≡ length b.low)
parts_even b h =
    let x = both_true (is_dim (length b.low) && length b.high == length b.low) (length b.step == length b.low) h in
    let y = both_true (is_dim (length b.low)) (length b.high == length b.low) x.0 in
    (y.0, same_count (length b.high) (length b.low) y.1, same_count (length b.step) (length b.low) x.1)

pub high_dim : (b : Bounds) → is_even b ≡ true → (point_of_numbers b.high).dim ≡ (point_of_numbers b.low).dim
high_dim b h =
    let p = parts_even b h in
    dim_of_list b.high (ap is_dim p.1 ∙ p.0) ∙ p.1 ∙ sym (dim_of_list b.low p.0)

pub step_dim : (b : Bounds) → is_even b ≡ true → (point_of_numbers b.step).dim ≡ (point_of_numbers b.low).dim
step_dim b h =
    let p = parts_even b h in
    dim_of_list b.step (ap is_dim p.2 ∙ p.0) ∙ p.2 ∙ sym (dim_of_list b.low p.0)

small : (n : ℕ) → is_dim n ≡ true → n ≤ 3
small n h = let p = both_true (nat_le 1 n) (nat_le n 3) h in grind (arith, nat_tests)

-- steps that are all at least 1
forward : (xs : List ℤ) → is_dim (length xs) ≡ true → list_all (int_le (pos 1)) xs ≡ true → HasBadStride (point_of_numbers xs) → ⊥
forward [] d a bad = absurd (let c : false ≡ true = d in cc)
forward (x ∷ []) d a bad =
    let p : pos 1 ≤ℤ x = le_from (pos 1) x (both_true _ _ a).0 in
    ⊎_elim (λ l. omega (arith, ints)) (λ k. ⊎_elim (λ m. omega (arith, m.0)) (λ m. omega (arith, m.0)) k) bad
forward (x ∷ y ∷ []) d a bad =
    let s = both_true _ _ a in
    let p : pos 1 ≤ℤ x = le_from (pos 1) x s.0 in
    let q : pos 1 ≤ℤ y = le_from (pos 1) y (both_true _ _ s.1).0 in
    ⊎_elim (λ l. omega (arith, ints)) (λ k. ⊎_elim (λ m. let n = m.1 in omega (arith, ints)) (λ m. omega (arith, m.0)) k) bad
forward (x ∷ y ∷ z ∷ []) d a bad =
    let s = both_true _ _ a in
    let t = both_true _ _ s.1 in
    let p : pos 1 ≤ℤ x = le_from (pos 1) x s.0 in
    let q : pos 1 ≤ℤ y = le_from (pos 1) y t.0 in
    let r : pos 1 ≤ℤ z = le_from (pos 1) z (both_true _ _ t.1).0 in
    ⊎_elim (λ l. omega (arith, ints)) (λ k. ⊎_elim (λ m. let n = m.1 in omega (arith, ints)) (λ m. let n = m.1 in omega (arith, ints)) k) bad
forward (x ∷ y ∷ z ∷ t ∷ xs) d a bad =
    let l : length (x ∷ y ∷ z ∷ t ∷ xs) ≤ 3 = small (length (x ∷ y ∷ z ∷ t ∷ xs)) d in
    absurd (omega arith)

pub no_bad_stride : (b : Bounds) → is_even b ≡ true → list_all (int_le (pos 1)) b.step ≡ true → HasBadStride (point_of_numbers b.step) → ⊥
no_bad_stride b h a bad =
    let p = parts_even b h in
    forward b.step (ap is_dim p.2 ∙ p.0) a bad
