-- Proves how many points domains have.
use Rattle.std.proofs.Common.{◌≡◌, refl, ℕ, ◌<◌, ◌≤◌, nat_le, true, false, List, length, arith}
use Rattle.std.proofs.lemmas.Bool.Decides.{nat_tests}
use Rattle.ti_base.specs.declared.place.Place.{Place}
use Rattle.ti_base.specs.declared.point.Rect.{Rect}
use Rattle.ti_base.specs.declared.point.Point.{Point}
use Rattle.ti_base.specs.declared.value.Value.TheVariants.{Rc}
use Rattle.ti_base.specs.declared.fault.FaultKind.{FaultKind}
use Rattle.ti_base.specs.declared.fault.FaultKind.TheVariants.{DomainSize}
use Rattle.ti_base.specs.declared.entry.Answer.{Answer}
use Rattle.ti_base.specs.Rects.{points_of, size_of}
use Rattle.ti_base.proofs.Lemmas.{length_points}
use Rattle.ti_lang.specs.Meaning.Held.{Plain, Dm}
use Rattle.ti_lang.specs.Meaning.Comp.{Gives, Fails, guard}
use Rattle.ti_lang.specs.Meaning.Conversions.{to_domain, domain_within}
use Rattle.ti_domain.specs.Domains.{Domain}

pub passes : {A : Type 0} (n m : ℕ) (kind : FaultKind) (at : Place) (a : A) (rest : List Answer) → n ≤ m → guard (nat_le n m) kind at a rest ≡ Gives a rest
passes n m kind at a rest h =
    let t : nat_le n m ≡ true = grind (arith, nat_tests) in
    rw t refl

pub fails : {A : Type 0} (n m : ℕ) (kind : FaultKind) (at : Place) (a : A) (rest : List Answer) → m < n → guard (nat_le n m) kind at a rest ≡ Fails kind at
fails n m kind at a rest h =
    let t : nat_le n m ≡ false = grind (arith, nat_tests) in
    rw t refl

pub widens : (at : Place) (r : Rect) (d : Domain) (rest : List Answer) → (1048576 < length (points_of r) → ⊥) → d.dim ≡ r.dim → d.points ≡ points_of r
    → to_domain at (Plain (Rc r)) rest ≡ Gives (Dm d.dim d.points) rest
widens at r d rest h e f =
    let s : size_of r ≤ 1048576 = omega (arith, h, length_points r) in
    rw (e, f) (passes (size_of r) 1048576 DomainSize at (Dm r.dim (points_of r)) rest s)

pub too_wide : (at : Place) (r : Rect) (rest : List Answer) → 1048576 < length (points_of r) → to_domain at (Plain (Rc r)) rest ≡ Fails DomainSize at
too_wide at r rest h =
    let s : 1048576 < size_of r = omega (arith, length_points r) in
    fails (size_of r) 1048576 DomainSize at (Dm r.dim (points_of r)) rest s

-- a domain that isn't too large
pub within_size : (at : Place) (dim : ℕ) (points : List Point) (rest : List Answer) → length points ≤ 1048576 → domain_within at dim points rest ≡ Gives (Dm dim points) rest
within_size at dim points rest h = passes (length points) 1048576 DomainSize at (Dm dim points) rest h

pub above_size : (at : Place) (dim : ℕ) (points : List Point) (rest : List Answer) → 1048576 < length points → domain_within at dim points rest ≡ Fails DomainSize at
above_size at dim points rest h = fails (length points) 1048576 DomainSize at (Dm dim points) rest h

pub ruleset sizes = (within_size, above_size)
