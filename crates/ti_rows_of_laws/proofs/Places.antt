-- Places and truth values.
use Rattle.std.proofs.Common.{◌≡◌, ◌==◌, Bool, true, false, ◌&&◌, ◌||◌, refl, sym, arith}
use Rattle.std.proofs.lemmas.Bool.{eqb-true}
use Rattle.std.proofs.lemmas.Bool.Decides.{nat_tests}
use Rattle.ti_base.specs.declared.place.Place.{Place}
use Rattle.ti_base.specs.Places.{place_before, same_place}

pub true_false : true ≡ false → ⊥
true_false e = cc

pub or_left : (a : Bool) → (a || false) ≡ true → a ≡ true
or_left true h = refl
or_left false h = h

pub or_right : (a b : Bool) → b ≡ true → (a || b) ≡ true
or_right true b h = refl
or_right false b h = h

pub and_true : (a : Bool) → a ≡ true → (a && true) ≡ true
and_true true h = refl
and_true false h = h

both : (a b : Bool) → (a && b) ≡ true → (a ≡ true) × (b ≡ true)
both true b h = (refl, h)
both false b h = absurd (true_false (sym h))

pub place_is : (p q : Place) → same_place p q ≡ true → p ≡ q
place_is p q h =
    let g = both (p.line == q.line) (p.col == q.col) h in
    let l : p.line ≡ q.line = eqb-true p.line q.line g.0 in
    let k : p.col ≡ q.col = eqb-true p.col q.col g.1 in
    λ j. record { line = l j; col = k j }

-- a place isn't among those up to an earlier one
pub not_up_to : (c p : Place) → place_before c p ≡ true → (place_before p c || same_place p c) ≡ false
not_up_to c p h = grind (arith, nat_tests)

pub before_trans : (p q r : Place) → place_before p q ≡ true → place_before q r ≡ true → place_before p r ≡ true
before_trans p q r h k = grind (arith, nat_tests)
