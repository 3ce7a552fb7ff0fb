-- The size of a rectangle is proved to be the length of its point list, and an increasing list to be determined by its points.
use Rattle.std.proofs.Common.{◌≡◌, inl, inr, ◌↔◌, ℕ, zero, suc, ◌*◌, ℤ, pos, ◌+ℤ◌, List, [], ◌∷◌, map, length, refl, sym, ap, subst, ◌∙◌, arith, length-append}
use Rattle.std.specs.List.{flat_map}
use Rattle.std.proofs.lemmas.Int.{ints}
use Rattle.std.proofs.lemmas.List.{length-map}
use Rattle.ti_base.specs.declared.point.Point.{Point}
use Rattle.ti_base.specs.declared.point.Rect.{Rect}
use Rattle.ti_base.specs.Points.{pt_lex_lt}
use Rattle.ti_base.specs.PointSets.{IsAmong, IsBelow, Rises}
use Rattle.ti_base.specs.Ranges.{count_on, numbers_from, numbers_on}
use Rattle.ti_base.specs.Rects.{points_of, size_of, first_range, second_range, third_range}

-- ---- how many points

length_numbers : (low : ℤ) (step n : ℕ) → length (numbers_from low step n) ≡ n
length_numbers low step zero = refl
length_numbers low step (suc n) = ap suc (length_numbers (low +ℤ pos step) step n)

length_flat : {A B : Type 0} (f : A → List B) (n : ℕ) → ((x : A) → length (f x) ≡ n) → (xs : List A) → length (flat_map f xs) ≡ length xs * n
length_flat f n same [] = omega arith
length_flat f n same (x ∷ xs) = length-append (f x) (flat_map f xs) ∙ omega (arith, same x, length_flat f n same xs)

pub length_points : (r : Rect) → length (points_of r) ≡ size_of r
length_points r =
    let a = numbers_on (first_range r) in
    let b = numbers_on (second_range r) in
    let c = numbers_on (third_range r) in
    let row : ℤ → ℤ → List Point = λ x y. map (λ z. record { dim = r.dim; x1 = x; x2 = y; x3 = z }) c in
    let one : (x y : ℤ) → length (row x y) ≡ count_on (third_range r) = λ x y. simp length-map (length_numbers _ _ _) in
    let two : (x : ℤ) → length (flat_map (row x) b) ≡ count_on (second_range r) * count_on (third_range r) =
    λ x. length_flat (row x) _ (one x) b ∙ ap (λ n. n * count_on (third_range r)) (length_numbers _ _ _) in
    length_flat (λ x. flat_map (row x) b) _ two a ∙ ap (λ n. n * (count_on (second_range r) * count_on (third_range r))) (length_numbers _ _ _) ∙ omega arith

-- ---- a set has one list

below_first : (p q : Point) → pt_lex_lt p q → pt_lex_lt q p → ⊥
below_first p q a b = omega (arith, ints)

pub irreflexive : (p : Point) → pt_lex_lt p p → ⊥
irreflexive p h = below_first p p h h

below_all : (p q : Point) (qs : List Point) → IsBelow p qs → IsAmong qs q → pt_lex_lt p q
below_all p q [] h m = elim m [ ]
below_all p q (x ∷ qs) h (inl e) = subst (pt_lex_lt p) (sym e) h.0
below_all p q (x ∷ qs) h (inr m) = below_all p q qs h.1 m

same_heads : (p q : Point) (ps qs : List Point) → IsBelow p ps → IsBelow q qs → IsAmong (q ∷ qs) p → IsAmong (p ∷ ps) q → p ≡ q
same_heads p q ps qs a b (inl e) n = e
same_heads p q ps qs a b (inr m) (inl e) = sym e
same_heads p q ps qs a b (inr m) (inr n) = absurd (below_first p q (below_all p q ps a n) (below_all q p qs b m))

-- what is among the rest is no head
rest_from : (p : Point) (ps qs : List Point) → IsBelow p ps → ((x : Point) → IsAmong (p ∷ ps) x → IsAmong (p ∷ qs) x) → (x : Point) → IsAmong ps x → IsAmong qs x
rest_from p ps qs a same x m = by (same x (inr m))
  where
    by : IsAmong (p ∷ qs) x → IsAmong qs x
    by (inl e) = absurd (irreflexive p (subst (pt_lex_lt p) e (below_all p x ps a m)))
    by (inr n) = n

pub one_list : (ps qs : List Point) → Rises ps → Rises qs → ((p : Point) → IsAmong ps p ↔ IsAmong qs p) → ps ≡ qs
one_list [] [] a b same = refl
one_list [] (q ∷ qs) a b same = absurd ((same q).1 (inl refl))
one_list (p ∷ ps) [] a b same = absurd ((same p).0 (inl refl))
one_list (p ∷ ps) (q ∷ qs) a b same =
    let e = same_heads p q ps qs a.0 b.0 ((same p).0 (inl refl)) ((same q).1 (inl refl)) in
    let b' : IsBelow p qs = subst (λ x. IsBelow x qs) (sym e) b.0 in
    let same' : (x : Point) → IsAmong (p ∷ ps) x ↔ IsAmong (p ∷ qs) x = subst (λ y. (x : Point) → IsAmong (p ∷ ps) x ↔ IsAmong (y ∷ qs) x) (sym e) same in
    let rest = one_list ps qs a.1 b.1 (λ x. (rest_from p ps qs a.0 (λ y. (same' y).0) x, rest_from p qs ps b' (λ y. (same' y).1) x)) in
    λ i. e i ∷ rest i
