-- The tests for canonical form are proved to decide it, for points and rectangles.
use Rattle.std.proofs.Common.{◌≡◌, ℕ, ◌*◌, ◌<◌, ◌≤◌, ◌/◌, nat_lt, nat_le, leb-true, le-leb, ◌==◌, ℤ, pos, ◌+ℤ◌, ◌-ℤ◌, length, Bool, true, false, not, ◌&&◌, ◌||◌, refl, ap, ap₂, sym, subst, ◌∙◌, arith}
use Rattle.std.specs.Bool.{Decides}
use Rattle.std.proofs.lemmas.Bool.Decides.{Decides-eqb, Decides-ltb, Decides-like, Decides-and, Decides-or}
use Rattle.std.specs.Str.{bytes_eq}
use Rattle.std.proofs.lemmas.Int.{ints}
use Rattle.std.proofs.lemmas.Slice.Eq.{bytes_eq-Decides}
use Rattle.std.proofs.Math.Nat.{mul-div_cancel}
use Rattle.ti_base.specs.declared.point.Point.{Point}
use Rattle.ti_base.specs.declared.point.Rect.{Rect}
use Rattle.ti_base.specs.Points.{IsDim, IsPoint}
use Rattle.ti_base.specs.PointSets.{same_number, same_point}
use Rattle.ti_base.specs.Ranges.{Range, IsRange, natural}
use Rattle.ti_base.specs.Rects.{IsRect, HasPoints, empty_rect, first_range, second_range, third_range}
use Rattle.ti_base.specs.Forms.{is_dim, is_point, steps_in, is_range, same_rect, ends_fit, ranges_fit, has_points, is_rect}
use Rattle.ti_base.proofs.DomainLaws.{number_from, number_self, same_from, same_self}

nat_le_decides : (a b : ℕ) → Decides (nat_le a b) (a ≤ b)
nat_le_decides a b = (leb-true a b, le-leb a b)

number_decides : (x y : ℤ) → Decides (same_number x y) (x ≡ y)
number_decides x y = (number_from x y, λ e. subst (λ z. same_number x z ≡ true) e (number_self x))

point_decides : (p q : Point) → Decides (same_point p q) (p ≡ q)
point_decides p q = (same_from p q, λ e. subst (λ x. same_point p x ≡ true) e (same_self p))

-- one fact where another one holds
implied : {P Q : Type 0} (x y : Bool) → Decides x P → Decides y Q → Decides (not x || y) (P → Q)
implied true y d k = (λ e p. k.0 e, λ f. k.1 (f (d.0 refl)))
implied false y d k = (λ e p. absurd (let c : false ≡ true = d.1 p in cc), λ f. refl)

pub is_dim_decides : (n : ℕ) → Decides (is_dim n) (IsDim n)
is_dim_decides n = Decides-and (nat_le 1 n) (nat_le n 3) (nat_le_decides 1 n) (nat_le_decides n 3)

pub is_point_decides : (p : Point) → Decides (is_point p) (IsPoint p)
is_point_decides p =
    Decides-like (is_point p) (λ h. record { dim = h.0; second = h.1.0; third = h.1.1 }) (λ (k : IsPoint p). (k.dim, (k.second, k.third)))
    (Decides-and (is_dim p.dim) ((not (nat_lt p.dim 2) || same_number p.x2 (pos 0)) && (not (nat_lt p.dim 3) || same_number p.x3 (pos 0))) (is_dim_decides p.dim)
    (Decides-and (not (nat_lt p.dim 2) || same_number p.x2 (pos 0)) (not (nat_lt p.dim 3) || same_number p.x3 (pos 0))
    (implied (nat_lt p.dim 2) (same_number p.x2 (pos 0)) (Decides-ltb p.dim 2) (number_decides p.x2 (pos 0)))
    (implied (nat_lt p.dim 3) (same_number p.x3 (pos 0)) (Decides-ltb p.dim 3) (number_decides p.x3 (pos 0)))))

-- ---- ranges

naturals : (n : ℕ) (z : ℤ) → z ≡ pos n → natural z ≡ n
naturals n z e = ap natural e

steps_are : (r : Range) (k : IsRange r) → steps_in r ≡ k.steps
steps_are r k =
    ap (λ n. n / r.step) (naturals (k.steps * r.step) (r.high -ℤ r.low) (grind (arith, ints, k.reached)))
    ∙ mul-div_cancel k.steps k.forward

range_back : (r : Range) (k : IsRange r) → (0 < r.step) × ((r.high ≡ r.low +ℤ pos (steps_in r * r.step)) × (steps_in r ≡ 0 → r.step ≡ 1))
range_back r k =
    let e = steps_are r k in
    (k.forward, (k.reached ∙ ap (λ n. r.low +ℤ pos (n * r.step)) (sym e), λ z. k.single (sym e ∙ z)))

is_range_decides : (r : Range) → Decides (is_range r) (IsRange r)
is_range_decides r =
    Decides-like (is_range r) (λ h. record { steps = steps_in r; reached = h.1.0; forward = h.0; single = h.1.1 }) (range_back r)
    (Decides-and (nat_lt 0 r.step) (same_number r.high (r.low +ℤ pos (steps_in r * r.step)) && (not (steps_in r == 0) || r.step == 1)) (Decides-ltb 0 r.step)
    (Decides-and (same_number r.high (r.low +ℤ pos (steps_in r * r.step))) (not (steps_in r == 0) || r.step == 1) (number_decides r.high (r.low +ℤ pos (steps_in r * r.step)))
    (implied (steps_in r == 0) (r.step == 1) (Decides-eqb (steps_in r) 0) (Decides-eqb r.step 1))))

-- ---- rectangles

rect_parts : (r s : Rect) → (r.dim ≡ s.dim) × ((r.lo ≡ s.lo) × ((r.hi ≡ s.hi) × (r.step ≡ s.step))) → r ≡ s
rect_parts r s h =
    ap₂ (λ d x. record { dim = d; lo = x; hi = r.hi; step = r.step }) h.0 h.1.0
    ∙ ap₂ (λ y z. record { dim = s.dim; lo = s.lo; hi = y; step = z }) h.1.1.0 h.1.1.1

same_rect_decides : (r s : Rect) → Decides (same_rect r s) (r ≡ s)
same_rect_decides r s =
    Decides-like (same_rect r s) (rect_parts r s) (λ e. (ap (λ (r : Rect). r.dim) e, (ap (λ (r : Rect). r.lo) e, (ap (λ (r : Rect). r.hi) e, ap (λ (r : Rect). r.step) e))))
    (Decides-and (r.dim == s.dim) (same_point r.lo s.lo && (same_point r.hi s.hi && bytes_eq r.step s.step)) (Decides-eqb r.dim s.dim)
    (Decides-and (same_point r.lo s.lo) (same_point r.hi s.hi && bytes_eq r.step s.step) (point_decides r.lo s.lo)
    (Decides-and (same_point r.hi s.hi) (bytes_eq r.step s.step) (point_decides r.hi s.hi) (bytes_eq-Decides r.step s.step))))

ends_decide : (r : Rect) → Decides (ends_fit r) (IsPoint r.lo × ((r.lo.dim ≡ r.dim) × (IsPoint r.hi × ((r.hi.dim ≡ r.dim) × (length r.step ≡ 3)))))
ends_decide r =
    Decides-and (is_point r.lo) (r.lo.dim == r.dim && (is_point r.hi && (r.hi.dim == r.dim && length r.step == 3))) (is_point_decides r.lo)
    (Decides-and (r.lo.dim == r.dim) (is_point r.hi && (r.hi.dim == r.dim && length r.step == 3)) (Decides-eqb r.lo.dim r.dim)
    (Decides-and (is_point r.hi) (r.hi.dim == r.dim && length r.step == 3) (is_point_decides r.hi)
    (Decides-and (r.hi.dim == r.dim) (length r.step == 3) (Decides-eqb r.hi.dim r.dim) (Decides-eqb (length r.step) 3))))

ranges_decide : (r : Rect) → Decides (ranges_fit r) (IsRange (first_range r) × (IsRange (second_range r) × IsRange (third_range r)))
ranges_decide r =
    Decides-and (is_range (first_range r)) (is_range (second_range r) && is_range (third_range r)) (is_range_decides (first_range r))
    (Decides-and (is_range (second_range r)) (is_range (third_range r)) (is_range_decides (second_range r)) (is_range_decides (third_range r)))

has_points_decides : (r : Rect) → Decides (has_points r) (HasPoints r)
has_points_decides r =
    Decides-like (has_points r)
    (λ h. record { low = h.0.0; low_dim = h.0.1.0; high = h.0.1.1.0; high_dim = h.0.1.1.1.0; steps = h.0.1.1.1.1; first = h.1.0; second = h.1.1.0; third = h.1.1.1 })
    (λ (k : HasPoints r). ((k.low, (k.low_dim, (k.high, (k.high_dim, k.steps)))), (k.first, (k.second, k.third))))
    (Decides-and (ends_fit r) (ranges_fit r) (ends_decide r) (ranges_decide r))

pub is_rect_decides : (r : Rect) → Decides (is_rect r) (IsRect r)
is_rect_decides r =
    Decides-and (is_dim r.dim) (same_rect r (empty_rect r.dim) || has_points r) (is_dim_decides r.dim)
    (Decides-or (same_rect r (empty_rect r.dim)) (has_points r) (same_rect_decides r (empty_rect r.dim)) (has_points_decides r))
