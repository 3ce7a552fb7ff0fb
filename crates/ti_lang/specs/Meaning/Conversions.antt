-- Conversions of values to a type, and the limit on the number of points of a domain.
use Rattle.std.specs.Prelude.{ℕ, nat_le, List, length}
use Rattle.ti_base.specs.declared.place.Place.{Place}
use Rattle.ti_base.specs.declared.point.Point.{Point}
use Rattle.ti_base.specs.declared.value.Value.TheVariants as v
use Rattle.ti_base.specs.declared.fault.FaultKind.TheVariants.{DomainSize}
use Rattle.ti_base.specs.Rects.{points_of, size_of}
use Rattle.ti_lang.specs.Program.Types.{ValueType}
use Rattle.ti_lang.specs.Program.Types as t
use Rattle.ti_lang.specs.Meaning.Held.{Held, Plain, Dm, points_in, dim_of, as_type}
use Rattle.ti_lang.specs.Meaning.Comp.{Comp, ◌>>=◌, gives, guard}

-- the greatest number of points that a domain may have
abbrev pub most_points : ℕ
most_points = 1048576

-- a rectangular domain as the list of its points, or a fault if there are too many; any other value is unchanged
abbrev pub to_domain : Place → Held → Comp Held
to_domain at (Plain (v.Rc r)) = guard (nat_le (size_of r) most_points) DomainSize at (Dm r.dim (points_of r))
to_domain at h = gives h

-- a value converted to a type, as by an assignment, a parameter or a cast
abbrev pub converted : Place → ValueType → Held → Comp Held
converted at (t.Dm dim) h = to_domain at h
converted at type h = gives (as_type type h)

-- the domain of these points, or a fault if there are too many
abbrev pub domain_within : Place → ℕ → List Point → Comp Held
domain_within at dim points = guard (nat_le (length points) most_points) DomainSize at (Dm dim points)

-- the result of a set operation on two domains, each rectangular or not
abbrev pub of_domains : (List Point → List Point → List Point) → Place → Held → Held → Comp Held
of_domains both at x y = do
  d ← to_domain at x
  e ← to_domain at y
  domain_within at (dim_of d) (both (points_in d) (points_in e))
