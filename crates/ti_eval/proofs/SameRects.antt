-- Proves that the comparison of two canonical rectangular domains decides whether they have the same points.
use Rattle.std.proofs.Common.{◌≡◌, refl, ap, ◌==◌, Bool, ◌&&◌, Decides}
use Rattle.std.specs.Ordering.{int_eq}
use Rattle.std.specs.Cmp.Lexicographic.{pointwise}
use Rattle.std.proofs.lemmas.Bool.Decides.{Decides-at, Decides-like, Decides-and, Decides-eqb, Decides-int_eq}
use Rattle.std.proofs.lemmas.Slice.Eq.{slice_eq-Decides}
use Rattle.ti_base.specs.declared.point.Point.{Point}
use Rattle.ti_base.specs.declared.point.Rect.{Rect}

abbrev is_point : Point → Point → Bool
is_point p q = (p.dim == q.dim) && (int_eq p.x1 q.x1 && (int_eq p.x2 q.x2 && int_eq p.x3 q.x3))

abbrev is_rect : Rect → Rect → Bool
is_rect r s = (r.dim == s.dim) && (is_point r.lo s.lo && (is_point r.hi s.hi && pointwise ◌==◌ r.step s.step))

points_told : (p q : Point) → Decides (is_point p q) (p ≡ q)
points_told p q =
    Decides-like (is_point p q) (λ h i. record { dim = h.0 i; x1 = h.1.0 i; x2 = h.1.1.0 i; x3 = h.1.1.1 i })
    (λ e. (ap (λ (x : Point). x.dim) e, (ap (λ (x : Point). x.x1) e, (ap (λ (x : Point). x.x2) e, ap (λ (x : Point). x.x3) e))))
    (Decides-and (p.dim == q.dim) _ (Decides-eqb p.dim q.dim)
    (Decides-and (int_eq p.x1 q.x1) _ (Decides-int_eq p.x1 q.x1)
    (Decides-and (int_eq p.x2 q.x2) (int_eq p.x3 q.x3) (Decides-int_eq p.x2 q.x2) (Decides-int_eq p.x3 q.x3))))

-- the comparison tells whether they are the same
pub rects_told : (b : Bool) (r s : Rect) → b ≡ is_rect r s → Decides b (r ≡ s)
rects_told b r s e =
    let steps = slice_eq-Decides Decides-eqb r.step s.step (pointwise ◌==◌ r.step s.step) refl in
    Decides-at b (is_rect r s) e
    (Decides-like (is_rect r s) (λ h i. record { dim = h.0 i; lo = h.1.0 i; hi = h.1.1.0 i; step = h.1.1.1 i })
    (λ k. (ap (λ (x : Rect). x.dim) k, (ap (λ (x : Rect). x.lo) k, (ap (λ (x : Rect). x.hi) k, ap (λ (x : Rect). x.step) k))))
    (Decides-and (r.dim == s.dim) _ (Decides-eqb r.dim s.dim)
    (Decides-and (is_point r.lo s.lo) _ (points_told r.lo s.lo)
    (Decides-and (is_point r.hi s.hi) (pointwise ◌==◌ r.step s.step) (points_told r.hi s.hi) steps))))
