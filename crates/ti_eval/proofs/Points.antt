-- Proves that operations on canonical points and rectangular domains yield canonical ones.
use Rattle.std.proofs.Common.{◌≡◌, ◌∙◌, refl, sym, ap, subst, ⊎_elim, length, get_or, arith, ℕ, ◌<◌, ℤ, pos, Bool, true, false, List, [], ◌∷◌, IsTrue, ◌↔◌, ◌&&◌}
use Rattle.std.specs.Int.{w32, int_wrap}
use Rattle.ti_base.specs.declared.point.Point.{Point}
use Rattle.ti_base.specs.declared.point.Rect.{Rect}
use Rattle.ti_base.specs.WholeNumbers.{sum, difference}
use Rattle.ti_base.specs.Points.{IsPoint, pt_sum, pt_difference}
use Rattle.ti_base.specs.PointSets.{same_point, IsAmong}
use Rattle.ti_base.specs.Rects.{IsRect, HasPoints, points_of}
use Rattle.ti_rect.proofs.Lemmas.{one_rect, points_listed}
use Rattle.ti_base.proofs.Lemmas.{same_from, same_self}
use Rattle.ti_lang.specs.Meaning.Operands.{same_points}

zero_sum : (x y : ℤ) → x ≡ pos 0 → y ≡ pos 0 → sum w32 x y ≡ pos 0
unfolding int_wrap
zero_sum x y e f = rw (e, f) refl

zero_difference : (x y : ℤ) → x ≡ pos 0 → y ≡ pos 0 → difference w32 x y ≡ pos 0
unfolding int_wrap
zero_difference x y e f = rw (e, f) refl

pub sum_formed : (p q : Point) → IsPoint p → IsPoint q → q.dim ≡ p.dim → IsPoint (pt_sum p q)
sum_formed p q f g e = record {
  dim = f.dim;
  second = λ h. zero_sum p.x2 q.x2 (f.second h) (g.second (subst (λ (n : ℕ). n < 2) (sym e) h));
  third = λ h. zero_sum p.x3 q.x3 (f.third h) (g.third (subst (λ (n : ℕ). n < 3) (sym e) h));
}

pub difference_formed : (p q : Point) → IsPoint p → IsPoint q → q.dim ≡ p.dim → IsPoint (pt_difference p q)
difference_formed p q f g e = record {
  dim = f.dim;
  second = λ h. zero_difference p.x2 q.x2 (f.second h) (g.second (subst (λ (n : ℕ). n < 2) (sym e) h));
  third = λ h. zero_difference p.x3 q.x3 (f.third h) (g.third (subst (λ (n : ℕ). n < 3) (sym e) h));
}

pub ruleset points = (sum_formed, difference_formed)

-- ---- the same points

both_true : (a b : Bool) → (a && b) ≡ true → (a ≡ true) × (b ≡ true)
both_true true b h = (refl, h)
both_true false b h = (h, absurd (let e : false ≡ true = h in cc))

same_list : (ps qs : List Point) → same_points ps qs ≡ true → ps ≡ qs
same_list [] [] h = refl
same_list [] (q ∷ qs) h = cc
same_list (p ∷ ps) [] h = cc
same_list (p ∷ ps) (q ∷ qs) h =
    let b = both_true (same_point p q) (same_points ps qs) h in
    ap (λ x. x ∷ ps) (same_from p q b.0) ∙ ap (λ xs. q ∷ xs) (same_list ps qs b.1)

list_same : (ps : List Point) → same_points ps ps ≡ true
list_same [] = refl
list_same (p ∷ ps) = rw (same_self p) (list_same ps)

same_answer : (a b : Bool) → (a ≡ true → b ≡ true) → (b ≡ true → a ≡ true) → a ≡ b
same_answer true true f g = refl
same_answer false false f g = refl
same_answer true false f g = sym (f refl)
same_answer false true f g = g refl

-- a test that tells whether two lists are the same
pub tells_same : (b : Bool) (ps qs : List Point) → (IsTrue b ↔ (ps ≡ qs)) → b ≡ same_points ps qs
tells_same b ps qs h = same_answer b (same_points ps qs)
    (λ t. subst (λ (xs : List Point). same_points ps xs ≡ true) (h.0 t) (list_same ps))
    (λ t. h.1 (same_list ps qs t))

-- ---- rectangular domains

pub rects_same : (r s : Rect) → r ≡ s → true ≡ same_points (points_of r) (points_of s)
rects_same r s e = subst (λ (t : Rect). true ≡ same_points (points_of r) (points_of t)) e (sym (list_same (points_of r)))

not_same : (b : Bool) → (b ≡ true → ⊥) → false ≡ b
not_same true h = absurd (h refl)
not_same false h = refl

pub rects_differ : (r s : Rect) → IsRect r → IsRect s → s.dim ≡ r.dim → (r ≡ s → ⊥) → false ≡ same_points (points_of r) (points_of s)
rects_differ r s f g d apart = not_same (same_points (points_of r) (points_of s)) (λ t.
    let e : points_of r ≡ points_of s = same_list (points_of r) (points_of s) t in
    let a = (points_listed r f).has in
    let b = (points_listed s g).has in
    apart (one_rect r s f g (sym d) (λ p. (
      λ i. (b p).0 (subst (λ (ps : List Point). IsAmong ps p) e ((a p).1 i)),
      λ i. (a p).0 (subst (λ (ps : List Point). IsAmong ps p) (sym e) ((b p).1 i)),
    ))))

-- ---- by their parts

three : (xs ys : List ℕ) → length xs ≡ 3 → length ys ≡ 3 → get_or xs 0 0 ≡ get_or ys 0 0 → get_or xs 1 0 ≡ get_or ys 1 0 → get_or xs 2 0 ≡ get_or ys 2 0 → xs ≡ ys
three (x ∷ y ∷ z ∷ []) (u ∷ v ∷ w ∷ []) h k e f g = cc
three [] ys h k e f g = absurd (omega (arith, h))
three (x ∷ []) ys h k e f g = absurd (omega (arith, h))
three (x ∷ y ∷ []) ys h k e f g = absurd (omega (arith, h))
three (x ∷ y ∷ z ∷ t ∷ xs) ys h k e f g = absurd (omega (arith, h))
three (x ∷ y ∷ z ∷ []) [] h k e f g = absurd (omega (arith, k))
three (x ∷ y ∷ z ∷ []) (u ∷ []) h k e f g = absurd (omega (arith, k))
three (x ∷ y ∷ z ∷ []) (u ∷ v ∷ []) h k e f g = absurd (omega (arith, k))
three (x ∷ y ∷ z ∷ []) (u ∷ v ∷ w ∷ t ∷ ys) h k e f g = absurd (omega (arith, k))

steps_of : (r : Rect) → IsRect r → length r.step ≡ 3
steps_of r f = ⊎_elim (λ e. ap (λ (t : Rect). length t.step) e) (λ (h : HasPoints r). h.steps) f.1

pub rect_from : (r s : Rect) → IsRect r → IsRect s → s.dim ≡ r.dim → same_point r.lo s.lo ≡ true → same_point r.hi s.hi ≡ true → get_or r.step 0 0 ≡ get_or s.step 0 0
    → get_or r.step 1 0 ≡ get_or s.step 1 0 → get_or r.step 2 0 ≡ get_or s.step 2 0 → r ≡ s
rect_from r s f g d l h x y z =
    let make : ℕ → Point → Point → List ℕ → Rect = λ n p q t. record { dim = n; lo = p; hi = q; step = t } in
    ap (λ n. make n r.lo r.hi r.step) (sym d) ∙ ap (λ p. make s.dim p r.hi r.step) (same_from r.lo s.lo l) ∙ ap (λ q. make s.dim s.lo q r.step) (same_from r.hi s.hi h)
    ∙ ap (λ t. make s.dim s.lo s.hi t) (three r.step s.step (steps_of r f) (steps_of s g) x y z)

pub low_differs : (r s : Rect) → same_point r.lo s.lo ≡ false → r ≡ s → ⊥
low_differs r s n e =
    let t : same_point r.lo s.lo ≡ true = subst (λ (q : Rect). same_point r.lo q.lo ≡ true) e (same_self r.lo) in
    let x : true ≡ false = sym t ∙ n in cc

pub high_differs : (r s : Rect) → same_point r.hi s.hi ≡ false → r ≡ s → ⊥
high_differs r s n e =
    let t : same_point r.hi s.hi ≡ true = subst (λ (q : Rect). same_point r.hi q.hi ≡ true) e (same_self r.hi) in
    let x : true ≡ false = sym t ∙ n in cc

pub step_differs : (r s : Rect) (k : ℕ) → (get_or r.step k 0 ≡ get_or s.step k 0 → ⊥) → r ≡ s → ⊥
step_differs r s k n e = n (ap (λ (q : Rect). get_or q.step k 0) e)
