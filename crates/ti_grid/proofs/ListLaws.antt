-- Indices of points in lists of points.
use Rattle.std.proofs.Common.{◌≡◌, inl, inr, ⊎_elim, ℕ, zero, suc, ◌+◌, ◌*◌, ◌<◌, ◌≤◌, eqb, ℤ, pos, ◌+ℤ◌, Bool, true, false, List, [], ◌∷◌, ◌++◌, if◌then◌else◌, map, length, Option, Some, None, IfSome, refl, sym, ap, subst, ◌∙◌, arith, length-append}
use Rattle.std.proofs.Math.Numerals.{add-one}
use Rattle.std.specs.Option.{option_map}
use Rattle.std.specs.List.{slice_get, flat_map, list_any, AllByRecursion, IsDistinct}
use Rattle.std.proofs.lemmas.Int.{ints}
use Rattle.std.proofs.lemmas.Bool.{eqb-true, ne_eqb, or_cases, false_from_ne_true}
use Rattle.std.proofs.lemmas.Map.Steps.{length-le_from_distinct_below}
use Rattle.ti_base.specs.declared.point.Point.{Point}
use Rattle.ti_base.specs.Points.{pt_lex_lt}
use Rattle.ti_base.specs.PointSets.{same_point, IsAmong, IsBelow, Rises}
use Rattle.ti_base.specs.Ranges.{numbers_from}
use Rattle.ti_base.proofs.Lemmas.{irreflexive, from_below, same_from, same_self}
use Rattle.ti_grid.specs.Views.{place_in}

-- ---- elements of joined lists

get_left : {A : Type 0} (xs ys : List A) (i : ℕ) → i < length xs → slice_get (xs ++ ys) i ≡ slice_get xs i
get_left [] ys i h = absurd (omega arith)
get_left (x ∷ xs) ys zero h = refl
get_left (x ∷ xs) ys (suc i) h = get_left xs ys i (omega arith)

get_right : {A : Type 0} (xs ys : List A) (i n : ℕ) → i ≡ length xs + n → slice_get (xs ++ ys) i ≡ slice_get ys n
get_right [] ys i n e = ap (slice_get ys) (omega arith)
get_right (x ∷ xs) ys zero n e = absurd (omega arith)
get_right (x ∷ xs) ys (suc i) n e = get_right xs ys i n (omega arith)

-- the element j of the list i, where each has m elements
pub get_flat : (f : ℤ → List Point) (m : ℕ) → ((x : ℤ) → length (f x) ≡ m) → (xs : List ℤ) (i j : ℕ) (x : ℤ) → slice_get xs i ≡ Some x → j < m
    → slice_get (flat_map f xs) (i * m + j) ≡ slice_get (f x) j
get_flat f m each [] i j x e h = cc
get_flat f m each (y ∷ ys) zero j x e h =
    let same : y ≡ x = cc in
    let n : 0 * m + j ≡ j = omega arith in
    ap (slice_get (f y ++ flat_map f ys)) n ∙ get_left (f y) (flat_map f ys) j (omega (arith, each y)) ∙ ap (λ (z : ℤ). slice_get (f z) j) same
get_flat f m each (y ∷ ys) (suc i) j x e h =
    get_right (f y) (flat_map f ys) (suc i * m + j) (i * m + j) (omega (arith, each y)) ∙ get_flat f m each ys i j x e h

-- the number i of a range
pub get_number : (low : ℤ) (step n i : ℕ) → i < n → slice_get (numbers_from low step n) i ≡ Some (low +ℤ pos (i * step))
get_number low step zero i h = absurd (omega arith)
get_number low step (suc n) zero h = let e : low ≡ low +ℤ pos (0 * step) = omega (arith, ints) in ap Some e
get_number low step (suc n) (suc i) h =
    let e : (low +ℤ pos step) +ℤ pos (i * step) ≡ low +ℤ pos (suc i * step) = omega (arith, ints) in
    get_number (low +ℤ pos step) step n i (omega arith) ∙ ap Some e

-- ---- lengths

pub length_numbers : (low : ℤ) (step n : ℕ) → length (numbers_from low step n) ≡ n
length_numbers low step zero = refl
length_numbers low step (suc n) = ap suc (length_numbers (low +ℤ pos step) step n)

pub length_flat : (f : ℤ → List Point) (n : ℕ) → ((x : ℤ) → length (f x) ≡ n) → (xs : List ℤ) → length (flat_map f xs) ≡ length xs * n
length_flat f n same [] = omega arith
length_flat f n same (x ∷ xs) = length-append (f x) (flat_map f xs) ∙ omega (arith, same x, length_flat f n same xs)

-- ---- a list that rises has each point once

pub among_get : (ps : List Point) (i : ℕ) (p : Point) → slice_get ps i ≡ Some p → IsAmong ps p
among_get [] i p e = cc
among_get (q ∷ qs) zero p e = let same : p ≡ q = cc in inl same
among_get (q ∷ qs) (suc i) p e = inr (among_get qs i p e)

head_is_no_other : (q : Point) (qs : List Point) (i : ℕ) (p : Point) → IsBelow q qs → q ≡ p → slice_get qs i ≡ Some p → ⊥
head_is_no_other q qs i p b same e = irreflexive p (subst (λ (x : Point). pt_lex_lt x p) same (from_below q p qs b (among_get qs i p e)))

-- the place of what stands there
pub place_found : (ps : List Point) (i : ℕ) (p : Point) → Rises ps → slice_get ps i ≡ Some p → place_in ps p ≡ Some i
place_found [] i p r e = cc
place_found (q ∷ qs) zero p r e =
    let same : q ≡ p = cc in
    ap (λ (t : Bool). if t then Some 0 else option_map (λ n. n + 1) (place_in qs p)) (subst (λ (x : Point). same_point p x ≡ true) (sym same) (same_self p))
place_found (q ∷ qs) (suc i) p r e =
    ap (λ (t : Bool). if t then Some 0 else option_map (λ n. n + 1) (place_in qs p))
    (false_from_ne_true (same_point p q) (λ f. head_is_no_other q qs i p r.0 (sym (same_from p q f)) e))
    ∙ ap (option_map (λ n. n + 1)) (place_found qs i p r.1 e) ∙ ap Some (add-one i)

-- what isn't in the list has no place
pub place_missing : (ps : List Point) (p : Point) → (IsAmong ps p → ⊥) → place_in ps p ≡ None
place_missing [] p out = refl
place_missing (q ∷ qs) p out =
    ap (λ (t : Bool). if t then Some 0 else option_map (λ n. n + 1) (place_in qs p)) (false_from_ne_true (same_point p q) (λ f. out (inl (same_from p q f))))
    ∙ ap (option_map (λ n. n + 1)) (place_missing qs p (λ m. out (inr m)))

pub place_below : (ps : List Point) (p : Point) → IfSome (place_in ps p) (λ i. i < length ps)
place_below [] p = tt
place_below (q ∷ qs) p = by (same_point p q) (place_in qs p) (place_below qs p)
  where
    by : (t : Bool) (o : Option ℕ) → IfSome o (λ i. i < length qs) → IfSome (if t then Some 0 else option_map (λ n. n + 1) o) (λ i. i < length (q ∷ qs))
    by true o h = omega arith
    by false None h = tt
    by false (Some i) h = omega arith

-- ---- points with different numbers below n are at most n

others : (f : Point → ℕ) (p : Point) (qs : List Point) → ((q : Point) → IsAmong qs q → f p ≡ f q → ⊥) → AllByRecursion (λ y. eqb (f p) y ≡ false) (map f qs)
others f p [] h = tt
others f p (q ∷ qs) h = (ne_eqb (f p) (f q) (h q (inl refl)), others f p qs (λ x m. h x (inr m)))

distinct : (f : Point → ℕ) (ps : List Point) → Rises ps → ((p q : Point) → IsAmong ps p → IsAmong ps q → f p ≡ f q → p ≡ q) → IsDistinct eqb (map f ps)
unfolding IsDistinct
distinct f [] r h = tt
distinct f (p ∷ ps) r h = (
  others f p ps (λ q m e. irreflexive q (subst (λ (x : Point). pt_lex_lt x q) (h p q (inl refl) (inr m) e) (from_below p q ps r.0 m))),
  distinct f ps r.1 (λ x y m n. h x y (inr m) (inr n)),
)

one_of : (f : Point → ℕ) (n : ℕ) (ps : List Point) (k : ℕ) → ((p : Point) → IsAmong ps p → f p < n) → list_any (eqb k) (map f ps) ≡ true → k < n
one_of f n [] k h e = cc
one_of f n (p ∷ ps) k h e = ⊎_elim
    (λ t. let same = eqb-true k (f p) t in omega (arith, h p (inl refl)))
    (λ t. one_of f n ps k (λ q m. h q (inr m)) t)
    (or_cases (eqb k (f p)) (list_any (eqb k) (map f ps)) e)

pub few_points : (f : Point → ℕ) (n : ℕ) (ps : List Point) → Rises ps → ((p q : Point) → IsAmong ps p → IsAmong ps q → f p ≡ f q → p ≡ q)
    → ((p : Point) → IsAmong ps p → f p < n) → length (map f ps) ≤ n
few_points f n ps r h below = length-le_from_distinct_below (map f ps) n (distinct f ps r h) (λ k t. one_of f n ps k below t)
