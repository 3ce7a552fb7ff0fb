-- Iterating over a set of points from each to the next one is proved to traverse its increasing list.
use Rattle.std.proofs.Common.{◌≡◌, ◌⊎◌, inl, inr, ⊎_elim, List, [], ◌∷◌, ◌++◌, Option, Some, None, refl, sym, subst, arith}
use Rattle.std.proofs.lemmas.Int.{ints}
use Rattle.ti_base.specs.declared.point.Point.{Point}
use Rattle.ti_base.specs.Points.{pt_lex_lt}
use Rattle.ti_base.specs.PointSets.{IsAmong, IsBelow, Rises, IsNextAfter, NoneAfter}

never_both : (p q : Point) → pt_lex_lt p q → pt_lex_lt q p → ⊥
never_both p q a b = omega (arith, ints)

from_below : (p q : Point) (qs : List Point) → IsBelow p qs → IsAmong qs q → pt_lex_lt p q
from_below p q [] b m = elim m [ ]
from_below p q (x ∷ qs) b (inl e) = subst (pt_lex_lt p) (sym e) b.0
from_below p q (x ∷ qs) b (inr m) = from_below p q qs b.1 m

-- what stands before a point of a rising list is below it, what stands behind is above
before_below : (before : List Point) (p : Point) (rest : List Point) (x : Point) → Rises (before ++ p ∷ rest) → IsAmong (before ++ p ∷ rest) x
    → pt_lex_lt x p ⊎ ((x ≡ p) ⊎ IsAmong rest x)
before_below [] p rest x r m = inr m
before_below (y ∷ before) p rest x r (inl e) = inl (subst (λ t. pt_lex_lt t p) (sym e) (from_below y p (before ++ p ∷ rest) r.0 (in_middle before p rest)))
  where
    in_middle : (before : List Point) (p : Point) (rest : List Point) → IsAmong (before ++ p ∷ rest) p
    in_middle [] p rest = inl refl
    in_middle (z ∷ before) p rest = inr (in_middle before p rest)
before_below (y ∷ before) p rest x r (inr m) = before_below before p rest x r.1 m

tail_rises : (before : List Point) (p : Point) (rest : List Point) → Rises (before ++ p ∷ rest) → IsBelow p rest × Rises rest
tail_rises [] p rest r = r
tail_rises (x ∷ before) p rest r = tail_rises before p rest r.1

in_rest : (before : List Point) (p x : Point) (rest : List Point) → IsAmong rest x → IsAmong (before ++ p ∷ rest) x
in_rest [] p x rest m = inr m
in_rest (y ∷ before) p x rest m = inr (in_rest before p x rest m)

pub begins : (q : Point) (ps : List Point) → Rises (q ∷ ps) → IsNextAfter (IsAmong (q ∷ ps)) None q
begins q ps r = record {
  member = inl refl;
  above = tt;
  first = λ other m _. ⊎_elim (λ e. inl (sym e)) (λ n. inr (from_below q other ps r.0 n)) m;
}

pub goes_on : (before : List Point) (p q : Point) (rest : List Point) → Rises (before ++ p ∷ q ∷ rest) → IsNextAfter (IsAmong (before ++ p ∷ q ∷ rest)) (Some p) q
goes_on before p q rest r =
    let t = tail_rises before p (q ∷ rest) r in
    record {
      member = in_rest before p q (q ∷ rest) (inl refl);
      above = t.0.0;
      first = λ other m up. ⊎_elim
          (λ below. absurd (never_both p other up below))
          (⊎_elim
          (λ e. absurd (let same : pt_lex_lt p p = subst (pt_lex_lt p) e up in never_both p p same same))
          (⊎_elim (λ e. inl (sym e)) (λ n. inr (from_below q other rest t.1.0 n))))
          (before_below before p (q ∷ rest) other r m);
    }

pub stops : (before : List Point) (p : Point) → Rises (before ++ p ∷ []) → NoneAfter (IsAmong (before ++ p ∷ [])) (Some p)
stops before p r q m up = ⊎_elim
    (λ below. never_both p q up below)
    (⊎_elim (λ e. let same : pt_lex_lt p p = subst (pt_lex_lt p) e up in never_both p p same same) (λ n. n))
    (before_below before p [] q r m)

pub one_next : (ps : List Point) (p : Option Point) (q r : Point) → IsNextAfter (IsAmong ps) p q → IsNextAfter (IsAmong ps) p r → q ≡ r
one_next ps p q r a b = ⊎_elim (λ e. e) (λ x. ⊎_elim (λ e. sym e) (λ y. absurd (never_both q r x y)) (b.first q a.member a.above)) (a.first r b.member b.above)
