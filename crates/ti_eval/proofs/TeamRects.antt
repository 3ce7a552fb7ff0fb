-- Proves which points rectangular domains with one point for each process have.
use Rattle.std.proofs.Common.{◌≡◌, ◌∙◌, inl, ⊎_elim, ◌↔◌, refl, sym, ap, subst, ℕ, ◌<◌, Bool, IsTrue, List, [], ◌∷◌, arith}
use Rattle.std.proofs.lemmas.Int.{ints}
use Rattle.ti_base.specs.declared.point.Point.{Point}
use Rattle.ti_base.specs.declared.point.Rect.{Rect}
use Rattle.ti_base.specs.PointSets.{IsAmong}
use Rattle.ti_base.specs.Rects.{IsRect, HasPoints, IsIn, IsSpanned, points_of, empty_rect}
use Rattle.ti_rect.proofs.Lemmas.{one_rect, points_listed, none_in, low_in}
use Rattle.ti_lang.specs.Meaning.Operands.{same_points}
use Rattle.ti_lang.specs.Meaning.Copies.{element_at}
use Rattle.ti_lang.specs.Meaning.Collectives.{team}
use Rattle.ti_eval.proofs.Points.{tells_same}
use Rattle.ti_eval.specs.Mirrors.ProcDomain.{last_proc_element}

none_among : (ps : List Point) → ((p : Point) → IsAmong ps p → ⊥) → ps ≡ []
none_among [] h = refl
none_among (p ∷ ps) h = absurd (h p (inl refl))

-- ---- a team of none

no_points : (r : Rect) → IsRect r → r ≡ empty_rect r.dim → points_of r ≡ []
no_points r f e = none_among (points_of r) (λ p m. none_in r e p (((points_listed r f).has p).0 m))

without_points : (r : Rect) → IsRect r → points_of r ≡ [] → r ≡ empty_rect r.dim
without_points r f l =
    ⊎_elim (λ e. e) (λ (h : HasPoints r). absurd (subst (λ (ps : List Point). IsAmong ps r.lo) l (((points_listed r f).has r.lo).1 (low_in r h)))) f.1

none_in_team : points_of (team 0) ≡ []
none_in_team = refl

pub of_none : (b : Bool) (r : Rect) (n : ℕ) → IsRect r → n ≡ 0 → (IsTrue b ↔ (r ≡ empty_rect r.dim)) → b ≡ same_points (points_of r) (points_of (team n))
of_none b r n f e h =
    tells_same b (points_of r) (points_of (team n))
    (λ t. no_points r f (h.0 t) ∙ sym (ap (λ k. points_of (team k)) e ∙ none_in_team), λ l. h.1 (without_points r f (l ∙ ap (λ k. points_of (team k)) e ∙ none_in_team)))

-- ---- a team of some

first_in : (n : ℕ) → 0 < n → IsSpanned (element_at 0) (last_proc_element n) (element_at 1) (element_at 0)
first_in n some = record {
  one_dim = refl;
  first = record { steps = 0; reached = refl; within = omega (arith, ints) };
  second = record { steps = 0; reached = refl; within = omega (arith, ints) };
  third = record { steps = 0; reached = refl; within = omega (arith, ints) };
}

-- the element of the first process is among those of all
pub first_spanned : (n : ℕ) (lo hi step : Point) → lo ≡ element_at 0 → hi ≡ last_proc_element n → step ≡ element_at 1 → 0 < n → IsSpanned lo hi step (element_at 0)
first_spanned n lo hi step e f g some =
    subst (λ (p : Point). IsSpanned p hi step (element_at 0)) (sym e)
    (subst (λ (p : Point). IsSpanned (element_at 0) p step (element_at 0)) (sym f)
    (subst (λ (p : Point). IsSpanned (element_at 0) (last_proc_element n) p (element_at 0)) (sym g) (first_in n some)))

same_rect : (r s : Rect) (q : Point) → IsRect r → IsRect s → IsIn s q → points_of r ≡ points_of s → r ≡ s
same_rect r s q f g w l =
    let a = (points_listed r f).has in
    let b = (points_listed s g).has in
    let there : (p : Point) → IsIn r p → IsIn s p = λ p i. (b p).0 (subst (λ (ps : List Point). IsAmong ps p) l ((a p).1 i)) in
    let back : (p : Point) → IsIn s p → IsIn r p = λ p i. (a p).0 (subst (λ (ps : List Point). IsAmong ps p) (sym l) ((b p).1 i)) in
    one_rect r s f g (sym (back q w).one_dim ∙ w.one_dim) (λ p. (there p, back p))

pub of_some : (b : Bool) (r s : Rect) (q : Point) → IsRect r → IsRect s → IsIn s q → (IsTrue b ↔ (r ≡ s)) → b ≡ same_points (points_of r) (points_of s)
of_some b r s q f g w h = tells_same b (points_of r) (points_of s) (λ t. ap points_of (h.0 t), λ l. h.1 (same_rect r s q f g w l))
