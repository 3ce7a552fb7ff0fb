-- Proves the sizes and the least and greatest points of domains.
use Rattle.std.proofs.Common.{◌≡◌, ◌∙◌, refl, sym, ap, subst, ⊎_elim, ℕ, ◌<◌, ◌≤◌, nat_le, ℤ, pos, Bool, true, false, List, length, IsTrue, ◌↔◌, arith}
use Rattle.std.proofs.lemmas.Bool.Decides.{nat_tests}
use Rattle.ti_base.specs.declared.place.Place.{Place}
use Rattle.ti_base.specs.declared.point.Point.{Point}
use Rattle.ti_base.specs.declared.point.Rect.{Rect}
use Rattle.ti_base.specs.declared.value.Value.TheVariants.{Rc, Int}
use Rattle.ti_base.specs.declared.fault.FaultKind.TheVariants.{DomainSize}
use Rattle.ti_base.specs.declared.entry.Answer.{Answer}
use Rattle.ti_base.specs.Points.{IsPoint}
use Rattle.ti_base.specs.PointSets.{IsAmong, AllOf, is_among}
use Rattle.ti_base.specs.Rects.{IsRect, HasPoints, IsIn, is_in, empty_rect, points_of, size_of}
use Rattle.ti_base.proofs.Lemmas.{length_points, among_from, among_to}
use Rattle.ti_rect.proofs.Lemmas.{in_tests}
use Rattle.ti_domain.proofs.Lemmas.{dim_of}
use Rattle.ti_lang.specs.Meaning.Held.{Plain}
use Rattle.ti_lang.specs.Meaning.Comp.{Gives, Fails}
use Rattle.ti_lang.specs.Meaning.MemberForms.{domain_size}
use Rattle.ti_eval.proofs.Sizes.{passes, fails}

-- ---- sizes

pub counts : (at : Place) (r : Rect) (n : ℤ) (rest : List Answer) → (2147483647 < length (points_of r) → ⊥) → n ≡ pos (length (points_of r)) → domain_size at (Plain (Rc r)) rest ≡ Gives (Plain (Int n)) rest
counts at r n rest h e =
    let s : size_of r ≤ 2147483647 = omega (arith, h, length_points r) in
    passes (size_of r) 2147483647 DomainSize at (Plain (Int (pos (size_of r)))) rest s
    ∙ ap (λ (k : ℤ). Gives (Plain (Int k)) rest) (ap pos (sym (length_points r)) ∙ sym e)

pub uncounted : (at : Place) (r : Rect) (rest : List Answer) → 2147483647 < length (points_of r) → domain_size at (Plain (Rc r)) rest ≡ Fails DomainSize at
uncounted at r rest h =
    let s : 2147483647 < size_of r = omega (arith, length_points r) in
    fails (size_of r) 2147483647 DomainSize at (Plain (Int (pos (size_of r)))) rest s

pub ruleset sizes = (counts, uncounted)

-- ---- ends

low_of_empty : (n : ℕ) → 1 ≤ n → n ≤ 3 → IsPoint (empty_rect n).lo × IsPoint (empty_rect n).hi
low_of_empty n h k = (
  record { dim = (h, k); second = λ l. let t : nat_le 2 n ≡ false = grind (arith, nat_tests) in rw t refl; third = λ l. let t : nat_le 3 n ≡ false = grind (arith, nat_tests) in rw t refl },
  record { dim = (h, k); second = λ l. refl; third = λ l. refl },
)

ends_of : (r : Rect) → IsRect r → IsPoint r.lo × IsPoint r.hi
ends_of r f =
    ⊎_elim (λ e. subst (λ (t : Rect). IsPoint t.lo × IsPoint t.hi) (sym e) (low_of_empty r.dim f.0.0 f.0.1)) (λ (h : HasPoints r). (h.low, h.high)) f.1

pub low_end : (r : Rect) → IsRect r → IsPoint r.lo
low_end r f = (ends_of r f).0

pub high_end : (r : Rect) → IsRect r → IsPoint r.hi
high_end r f = (ends_of r f).1

pub ruleset ends = (low_end, high_end)

-- ---- members

same_answer : (a b : Bool) → (a ≡ true → b ≡ true) → (b ≡ true → a ≡ true) → a ≡ b
same_answer true true f g = refl
same_answer false false f g = refl
same_answer true false f g = sym (f refl)
same_answer false true f g = g refl

pub tells_in : (b : Bool) (r : Rect) (p : Point) → IsRect r → (IsTrue b ↔ IsIn r p) → b ≡ is_in r p
tells_in b r p f h = same_answer b (is_in r p) (λ t. (in_tests r p f).1 (h.0 t)) (λ t. h.1 ((in_tests r p f).0 t))

pub tells_among : (b : Bool) (ps : List Point) (p : Point) → (IsTrue b ↔ IsAmong ps p) → b ≡ is_among ps p
tells_among b ps p h = same_answer b (is_among ps p) (λ t. among_to ps p (h.0 t)) (λ t. h.1 (among_from ps p t))

not_true : (b : Bool) → (b ≡ true → ⊥) → false ≡ b
not_true true h = absurd (h refl)
not_true false h = refl

pub other_dim_in : (r : Rect) (p : Point) → IsRect r → (p.dim ≡ r.dim → ⊥) → false ≡ is_in r p
other_dim_in r p f n = not_true (is_in r p) (λ t. n ((in_tests r p f).0 t).one_dim)

pub other_dim_among : (d : ℕ) (ps : List Point) (p : Point) → AllOf d ps → (p.dim ≡ d → ⊥) → false ≡ is_among ps p
other_dim_among d ps p a n = not_true (is_among ps p) (λ t. n (dim_of d ps p a (among_from ps p t)))
