-- Two accesses race both ways, by two processes, and one of them writes.
use Rattle.std.proofs.Common.{◌≡◌, ℕ, ◌==◌, Bool, true, false, not, ◌&&◌, ◌||◌, refl, sym, ap, subst, ◌∙◌}
use Rattle.std.proofs.lemmas.Bool.{eqb-true, eq-eqb}
use Rattle.ti_base.specs.declared.point.Point.{Point}
use Rattle.ti_base.specs.declared.value.Id.{Id}
use Rattle.ti_base.specs.PointSets.{same_point}
use Rattle.ti_base.specs.Cells.{Cell, Field, Element, same_id, same_cell}
use Rattle.ti_base.proofs.Lemmas.{same_from, same_self}
use Rattle.ti_lang.specs.Meaning.Races.{Access, race}

-- tests that hold together are one
one_test : (a b : Bool) → (a ≡ true → b ≡ true) → (b ≡ true → a ≡ true) → a ≡ b
one_test true b f g = sym (f refl)
one_test false true f g = g refl
one_test false false f g = refl

numbers_back : (m n : ℕ) → (m == n) ≡ (n == m)
numbers_back m n = one_test (m == n) (n == m) (λ e. eq-eqb n m (sym (eqb-true m n e))) (λ e. eq-eqb m n (sym (eqb-true n m e)))

points_back : (p q : Point) → same_point p q ≡ same_point q p
points_back p q =
    one_test (same_point p q) (same_point q p) (λ e. subst (λ z. same_point z p ≡ true) (same_from p q e) (same_self p))
    (λ e. subst (λ z. same_point z q ≡ true) (same_from q p e) (same_self q))

names_back : (a b : Id) → same_id a b ≡ same_id b a
names_back a b =
    λ i. numbers_back a.maker b.maker i && numbers_back a.serial b.serial i && numbers_back a.owner b.owner i && numbers_back a.region b.region i

cells_back : (c d : Cell) → same_cell c d ≡ same_cell d c
cells_back (Field a f) (Field b g) = λ i. names_back a b i && numbers_back f g i
cells_back (Element a p) (Element b q) = λ i. names_back a b i && points_back p q i
cells_back (Field a f) (Element b q) = refl
cells_back (Element a p) (Field b g) = refl

either_back : (a b : Bool) → (a || b) ≡ (b || a)
either_back true true = refl
either_back true false = refl
either_back false true = refl
either_back false false = refl

never_both : (a : Bool) → (a && false) ≡ false
never_both true = refl
never_both false = refl

pub race_back : (a b : Access) → race a b ≡ race b a
race_back a b =
    λ i. not (numbers_back a.proc b.proc i) && numbers_back a.phase b.phase i && cells_back a.cell b.cell i && either_back a.writes b.writes i

pub race_others : (a b : Access) → a.proc ≡ b.proc → race a b ≡ false
race_others a b e = ap (λ t. not t && a.phase == b.phase && same_cell a.cell b.cell && (a.writes || b.writes)) (eq-eqb a.proc b.proc e)

pub race_writes : (a b : Access) → a.writes ≡ false → b.writes ≡ false → race a b ≡ false
race_writes a b e f =
    let apart = not (a.proc == b.proc) && a.phase == b.phase && same_cell a.cell b.cell in
    (λ i. apart && (e i || f i)) ∙ never_both apart
