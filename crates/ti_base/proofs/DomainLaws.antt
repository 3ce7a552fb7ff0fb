-- The lists `meet`, `minus` and `union` are proved to be those of the intersection, difference and union of domains.
use Rattle.std.proofs.Common.{◌≡◌, ◌⊎◌, inl, inr, ⊎_elim, ◌↔◌, ℕ, ◌==◌, ℤ, ◌≤ℤ◌, ◌<ℤ◌, Bool, true, false, cond, not, ◌&&◌, ◌||◌, if◌then◌else◌, List, [], ◌∷◌, filter, refl, sym, ap, subst, ◌∙◌, arith}
use Rattle.std.specs.Int.RustNames.{int_lt, int_le}
use Rattle.std.proofs.lemmas.Bool.{eqb-true, eq-eqb}
use Rattle.std.proofs.lemmas.Int.{ints, by_lt_z}
use Rattle.ti_base.specs.declared.point.Point.{Point}
use Rattle.ti_base.specs.Points.{pt_lex_lt}
use Rattle.ti_base.specs.PointSets.{same_number, same_point, is_lex_lt, IsAmong, IsBelow, Rises, AllOf, IsListOf, is_among, meet, minus, with_point, union}

-- ---- tests

both_true : (a b : Bool) → (a && b) ≡ true → (a ≡ true) × (b ≡ true)
both_true true b e = (refl, e)
both_true false b e = absurd (let c : false ≡ true = e in cc)

pub number_from : (x y : ℤ) → same_number x y ≡ true → x ≡ y
number_from x y e =
    let b = both_true (int_le x y) (int_le y x) e in
    let f : x ≤ℤ y = let t = b.0 in grind (arith, ints) in
    let g : y ≤ℤ x = let t = b.1 in grind (arith, ints) in
    omega (arith, ints)

pub number_self : (x : ℤ) → same_number x x ≡ true
number_self x = let e : int_le x x ≡ true = grind (arith, ints) in ap (λ t. t && int_le x x) e ∙ e

pub same_from : (p q : Point) → same_point p q ≡ true → p ≡ q
same_from p q e =
    let a = both_true (p.dim == q.dim && same_number p.x1 q.x1 && same_number p.x2 q.x2) (same_number p.x3 q.x3) e in
    let b = both_true (p.dim == q.dim && same_number p.x1 q.x1) (same_number p.x2 q.x2) a.0 in
    let c = both_true (p.dim == q.dim) (same_number p.x1 q.x1) b.0 in
    λ i. record {
      dim = eqb-true p.dim q.dim c.0 i;
      x1 = number_from p.x1 q.x1 c.1 i;
      x2 = number_from p.x2 q.x2 b.1 i;
      x3 = number_from p.x3 q.x3 a.1 i;
    }

pub same_self : (p : Point) → same_point p p ≡ true
same_self p =
    ap (λ t. t && same_number p.x1 p.x1 && same_number p.x2 p.x2 && same_number p.x3 p.x3) (eq-eqb p.dim p.dim refl)
    ∙ ap (λ t. t && same_number p.x2 p.x2 && same_number p.x3 p.x3) (number_self p.x1)
    ∙ ap (λ t. t && same_number p.x3 p.x3) (number_self p.x2) ∙ number_self p.x3

pub among_from : (qs : List Point) (p : Point) → is_among qs p ≡ true → IsAmong qs p
among_from [] p e = cc
among_from (q ∷ qs) p e = by (same_point p q) refl e (among_from qs p)
  where
    by : (t : Bool) → same_point p q ≡ t → (t || is_among qs p) ≡ true → (is_among qs p ≡ true → IsAmong qs p) → (p ≡ q) ⊎ IsAmong qs p
    by true f g h = inl (same_from p q f)
    by false f g h = inr (h g)

or_right : (a b : Bool) → b ≡ true → (a || b) ≡ true
or_right true b e = refl
or_right false b e = e

pub among_to : (qs : List Point) (p : Point) → IsAmong qs p → is_among qs p ≡ true
among_to [] p m = elim m [ ]
among_to (q ∷ qs) p (inl e) = ap (λ t. t || is_among qs p) (subst (λ x. same_point p x ≡ true) e (same_self p))
among_to (q ∷ qs) p (inr m) = or_right (same_point p q) (is_among qs p) (among_to qs p m)

-- ---- those that pass a test

pub filter_in : (t : Point → Bool) (p : Point) (ps : List Point) → IsAmong (filter t ps) p ↔ (IsAmong ps p × (t p ≡ true))
filter_in t p [] = (λ m. absurd m, λ m. m.0)
filter_in t p (q ∷ qs) = by (t q) refl (filter_in t p qs)
  where
    by : (u : Bool) → t q ≡ u → (IsAmong (filter t qs) p ↔ (IsAmong qs p × (t p ≡ true))) → IsAmong (cond u (q ∷ filter t qs) (filter t qs)) p ↔ (((p ≡ q) ⊎ IsAmong qs p) × (t p ≡ true))
    by true e h = (forth, λ m. back m.0 m.1)
      where
        forth : (p ≡ q) ⊎ IsAmong (filter t qs) p → ((p ≡ q) ⊎ IsAmong qs p) × (t p ≡ true)
        forth (inl f) = (inl f, ap t f ∙ e)
        forth (inr m) = (inr (h.0 m).0, (h.0 m).1)

        back : (p ≡ q) ⊎ IsAmong qs p → t p ≡ true → (p ≡ q) ⊎ IsAmong (filter t qs) p
        back (inl f) g = inl f
        back (inr m) g = inr (h.1 (m, g))
    by false e h = (λ m. (inr (h.0 m).0, (h.0 m).1), λ m. back m.0 m.1)
      where
        back : (p ≡ q) ⊎ IsAmong qs p → t p ≡ true → IsAmong (filter t qs) p
        back (inl f) g = let k = ap t f in absurd (let c : true ≡ false = sym g ∙ k ∙ e in cc)
        back (inr m) g = h.1 (m, g)

filter_below : (t : Point → Bool) (p : Point) (ps : List Point) → IsBelow p ps → IsBelow p (filter t ps)
filter_below t p [] b = tt
filter_below t p (q ∷ qs) b = by (t q) (filter_below t p qs b.1)
  where
    by : (u : Bool) → IsBelow p (filter t qs) → IsBelow p (cond u (q ∷ filter t qs) (filter t qs))
    by true h = (b.0, h)
    by false h = h

filter_rises : (t : Point → Bool) (ps : List Point) → Rises ps → Rises (filter t ps)
filter_rises t [] a = tt
filter_rises t (q ∷ qs) a = by (t q) (filter_rises t qs a.1)
  where
    by : (u : Bool) → Rises (filter t qs) → Rises (cond u (q ∷ filter t qs) (filter t qs))
    by true h = (filter_below t q qs a.0, h)
    by false h = h

pub meet_lists : (ps qs : List Point) → Rises ps → IsListOf (λ p. IsAmong ps p × IsAmong qs p) (meet ps qs)
meet_lists ps qs r = record {
  rises = filter_rises (is_among qs) ps r;
  has = λ p. let h = filter_in (is_among qs) p ps in
      (λ m. ((h.0 m).0, among_from qs p (h.0 m).1), λ m. h.1 (m.0, among_to qs p m.1));
}

not_true : (a : Bool) → not a ≡ true → a ≡ true → ⊥
not_true true e f = let c : false ≡ true = e in cc
not_true false e f = cc

not_from : (a : Bool) → (a ≡ true → ⊥) → not a ≡ true
not_from true h = absurd (h refl)
not_from false h = refl

pub minus_lists : (ps qs : List Point) → Rises ps → IsListOf (λ p. IsAmong ps p × (IsAmong qs p → ⊥)) (minus ps qs)
minus_lists ps qs r = record {
  rises = filter_rises (λ p. not (is_among qs p)) ps r;
  has = λ p. let h = filter_in (λ x. not (is_among qs x)) p ps in (
    λ m. ((h.0 m).0, λ n. not_true (is_among qs p) (h.0 m).1 (among_to qs p n)),
    λ m. h.1 (m.0, not_from (is_among qs p) (λ e. m.1 (among_from qs p e))),
  );
}

-- ---- union

lex_from : (p q : Point) → is_lex_lt p q ≡ true → pt_lex_lt p q
lex_from p q e = by (int_lt p.x1 q.x1) refl e
  where
    last : same_number p.x1 q.x1 ≡ true → (same_number p.x2 q.x2 && int_lt p.x3 q.x3) ≡ true → pt_lex_lt p q
    last f g =
        let b = both_true (same_number p.x2 q.x2) (int_lt p.x3 q.x3) g in
        let h : p.x3 <ℤ q.x3 = let t = b.1 in grind (arith, ints) in
        inr (number_from p.x1 q.x1 f, inr (number_from p.x2 q.x2 b.0, h))

    middle : (u : Bool) → int_lt p.x2 q.x2 ≡ u → same_number p.x1 q.x1 ≡ true → (u || (same_number p.x2 q.x2 && int_lt p.x3 q.x3)) ≡ true → pt_lex_lt p q
    middle true k f g = let h : p.x2 <ℤ q.x2 = grind (arith, ints) in inr (number_from p.x1 q.x1 f, inl h)
    middle false k f g = last f g

    by : (t : Bool) → int_lt p.x1 q.x1 ≡ t → (t || (same_number p.x1 q.x1 && (int_lt p.x2 q.x2 || (same_number p.x2 q.x2 && int_lt p.x3 q.x3)))) ≡ true → pt_lex_lt p q
    by true f g = let h : p.x1 <ℤ q.x1 = grind (arith, ints) in inl h
    by false f g =
        let b = both_true (same_number p.x1 q.x1) (int_lt p.x2 q.x2 || (same_number p.x2 q.x2 && int_lt p.x3 q.x3)) g in
        middle (int_lt p.x2 q.x2) refl b.0 b.1

number_to : (x y : ℤ) → x ≡ y → same_number x y ≡ true
number_to x y e = subst (λ z. same_number x z ≡ true) e (number_self x)

lt_to : (x y : ℤ) → x <ℤ y → int_lt x y ≡ true
lt_to x y h = grind (arith, ints)

lex_to : (p q : Point) → pt_lex_lt p q → is_lex_lt p q ≡ true
lex_to p q (inl h) = ap (λ t. t || (same_number p.x1 q.x1 && (int_lt p.x2 q.x2 || (same_number p.x2 q.x2 && int_lt p.x3 q.x3)))) (lt_to p.x1 q.x1 h)
lex_to p q (inr (e, inl h)) = or_right (int_lt p.x1 q.x1) _
    (ap (λ t. t && (int_lt p.x2 q.x2 || (same_number p.x2 q.x2 && int_lt p.x3 q.x3))) (number_to p.x1 q.x1 e)
    ∙ ap (λ t. t || (same_number p.x2 q.x2 && int_lt p.x3 q.x3)) (lt_to p.x2 q.x2 h))
lex_to p q (inr (e, inr (f, h))) = or_right (int_lt p.x1 q.x1) _
    (ap (λ t. t && (int_lt p.x2 q.x2 || (same_number p.x2 q.x2 && int_lt p.x3 q.x3))) (number_to p.x1 q.x1 e)
    ∙ or_right (int_lt p.x2 q.x2) (same_number p.x2 q.x2 && int_lt p.x3 q.x3)
    (ap (λ t. t && int_lt p.x3 q.x3) (number_to p.x2 q.x2 f) ∙ lt_to p.x3 q.x3 h))

-- of two points of one dimension that are not the same one is below the other
pub other_below : (p q : Point) → p.dim ≡ q.dim → (pt_lex_lt p q → ⊥) → (p ≡ q → ⊥) → pt_lex_lt q p
other_below p q d less same = by_lt_z q.x1 p.x1 (λ h. inl h)
    (λ a. by_lt_z p.x1 q.x1 (λ h. absurd (less (inl h)))
    (λ b.
    let e : p.x1 ≡ q.x1 = omega (arith, ints) in
    by_lt_z q.x2 p.x2 (λ h. inr (sym e, inl h))
    (λ c. by_lt_z p.x2 q.x2 (λ h. absurd (less (inr (e, inl h))))
    (λ k.
    let f : p.x2 ≡ q.x2 = omega (arith, ints) in
    by_lt_z q.x3 p.x3 (λ h. inr (sym e, inr (sym f, h)))
    (λ l. by_lt_z p.x3 q.x3 (λ h. absurd (less (inr (e, inr (f, h)))))
    (λ m.
    let g : p.x3 ≡ q.x3 = omega (arith, ints) in
    absurd (same (λ i. record { dim = d i; x1 = e i; x2 = f i; x3 = g i }))))))))

pub below_trans : (p q r : Point) → pt_lex_lt p q → pt_lex_lt q r → pt_lex_lt p r
below_trans p q r (inl a) (inl b) = inl (omega (arith, ints))
below_trans p q r (inl a) (inr (e, b)) = inl (omega (arith, ints))
below_trans p q r (inr (e, a)) (inl b) = inl (omega (arith, ints))
below_trans p q r (inr (e, inl a)) (inr (f, inl b)) = inr (e ∙ f, inl (omega (arith, ints)))
below_trans p q r (inr (e, inl a)) (inr (f, inr (g, b))) = inr (e ∙ f, inl (omega (arith, ints)))
below_trans p q r (inr (e, inr (g, a))) (inr (f, inl b)) = inr (e ∙ f, inl (omega (arith, ints)))
below_trans p q r (inr (e, inr (g, a))) (inr (f, inr (h, b))) = inr (e ∙ f, inr (g ∙ h, omega (arith, ints)))

pub below_from : (p : Point) (qs : List Point) → ((q : Point) → IsAmong qs q → pt_lex_lt p q) → IsBelow p qs
below_from p [] h = tt
below_from p (q ∷ qs) h = (h q (inl refl), below_from p qs (λ x m. h x (inr m)))

pub from_below : (p q : Point) (qs : List Point) → IsBelow p qs → IsAmong qs q → pt_lex_lt p q
from_below p q [] b m = elim m [ ]
from_below p q (x ∷ qs) b (inl e) = subst (pt_lex_lt p) (sym e) b.0
from_below p q (x ∷ qs) b (inr m) = from_below p q qs b.1 m

with_in : (p x : Point) (qs : List Point) → IsAmong (with_point p qs) x ↔ ((x ≡ p) ⊎ IsAmong qs x)
with_in p x [] = (λ m. m, λ m. m)
with_in p x (q ∷ qs) = by (is_lex_lt p q) (same_point p q) refl (with_in p x qs)
  where
    by : (t u : Bool) → same_point p q ≡ u → (IsAmong (with_point p qs) x ↔ ((x ≡ p) ⊎ IsAmong qs x))
        → IsAmong (if t then p ∷ q ∷ qs else if u then q ∷ qs else q ∷ with_point p qs) x ↔ ((x ≡ p) ⊎ ((x ≡ q) ⊎ IsAmong qs x))
    by true u e h = (λ m. m, λ m. m)
    by false true e h = (λ m. inr m, ⊎_elim (λ f. inl (f ∙ same_from p q e)) (λ m. m))
    by false false e h = (
      ⊎_elim (λ f. inr (inl f)) (λ m. ⊎_elim inl (λ n. inr (inr n)) (h.0 m)),
      ⊎_elim (λ f. inr (h.1 (inl f))) (⊎_elim inl (λ m. inr (h.1 (inr m)))),
    )

with_rises : (d : ℕ) (p : Point) (qs : List Point) → p.dim ≡ d → AllOf d qs → Rises qs → Rises (with_point p qs)
with_rises d p [] e a r = (tt, tt)
with_rises d p (q ∷ qs) e a r = by (is_lex_lt p q) refl (same_point p q) refl (with_rises d p qs e a.1 r.1)
  where
    by : (t : Bool) → is_lex_lt p q ≡ t → (u : Bool) → same_point p q ≡ u → Rises (with_point p qs)
        → Rises (if t then p ∷ q ∷ qs else if u then q ∷ qs else q ∷ with_point p qs)
    by true f u g h = ((lex_from p q f, below_from p qs (λ x m. below_trans p q x (lex_from p q f) (from_below q x qs r.0 m))), r)
    by false f true g h = r
    by false f false g h =
        let less : pt_lex_lt q p = other_below p q (e ∙ sym a.0)
        (λ k. let t = lex_to p q k in let c : true ≡ false = sym t ∙ f in cc)
        (λ k. let t = subst (λ x. same_point p x ≡ true) k (same_self p) in let c : true ≡ false = sym t ∙ g in cc) in
        (below_from q (with_point p qs) (λ x m. ⊎_elim (λ k. subst (pt_lex_lt q) (sym k) less) (λ n. from_below q x qs r.0 n) ((with_in p x qs).0 m)), h)

with_dim : (d : ℕ) (p : Point) (qs : List Point) → p.dim ≡ d → AllOf d qs → AllOf d (with_point p qs)
with_dim d p [] e a = (e, tt)
with_dim d p (q ∷ qs) e a = by (is_lex_lt p q) (same_point p q) (with_dim d p qs e a.1)
  where
    by : (t u : Bool) → AllOf d (with_point p qs) → AllOf d (if t then p ∷ q ∷ qs else if u then q ∷ qs else q ∷ with_point p qs)
    by true u h = (e, a)
    by false true h = a
    by false false h = (a.0, h)

pub union_dim : (d : ℕ) (ps qs : List Point) → AllOf d ps → AllOf d qs → AllOf d (union ps qs)
union_dim d ps [] a b = a
union_dim d ps (q ∷ qs) a b = with_dim d q (union ps qs) b.0 (union_dim d ps qs a b.1)

union_rises : (d : ℕ) (ps qs : List Point) → AllOf d ps → AllOf d qs → Rises ps → Rises (union ps qs)
union_rises d ps [] a b r = r
union_rises d ps (q ∷ qs) a b r = with_rises d q (union ps qs) b.0 (union_dim d ps qs a b.1) (union_rises d ps qs a b.1 r)

pub union_in : (ps qs : List Point) (x : Point) → IsAmong (union ps qs) x ↔ (IsAmong ps x ⊎ IsAmong qs x)
union_in ps [] x = (inl, ⊎_elim (λ m. m) (λ m. absurd m))
union_in ps (q ∷ qs) x =
    let h = union_in ps qs x in
    let w = with_in q x (union ps qs) in (
      λ m. ⊎_elim (λ e. inr (inl e)) (λ n. ⊎_elim inl (λ k. inr (inr k)) (h.0 n)) (w.0 m),
      ⊎_elim (λ m. w.1 (inr (h.1 (inl m)))) (⊎_elim (λ e. w.1 (inl e)) (λ m. w.1 (inr (h.1 (inr m))))),
    )

pub union_lists : (d : ℕ) (ps qs : List Point) → AllOf d ps → AllOf d qs → Rises ps → IsListOf (λ p. IsAmong ps p ⊎ IsAmong qs p) (union ps qs)
union_lists d ps qs a b r = record { rises = union_rises d ps qs a b r; has = union_in ps qs }
