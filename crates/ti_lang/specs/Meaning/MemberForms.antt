-- The built-in members that have a value: those of domains and grids.
use Rattle.std.specs.Prelude.{ℕ, nat_le, pos, Bool, false, not, List, length, slice_index_or, Option, Some}
use Rattle.ti_base.specs.declared.place.Place.{Place}
use Rattle.ti_base.specs.declared.point.Point.{Point}
use Rattle.ti_base.specs.declared.value.Value.TheVariants as v
use Rattle.ti_base.specs.declared.fault.FaultKind.TheVariants.{EmptyDomain, DomainSize}
use Rattle.ti_base.specs.declared.action.ViewHow.TheVariants as how
use Rattle.ti_base.specs.PointSets.{is_among}
use Rattle.ti_base.specs.Rects.{is_in, is_empty, size_of}
use Rattle.ti_lang.specs.Program.Types.{ValueType}
use Rattle.ti_lang.specs.Typing.BuiltIn.{BuiltIn, Size, Min, Max, Contains, Domain, Restrict, Translate, Slice}
use Rattle.ti_lang.specs.Meaning.Held.{Held, Plain, Dm, no_value, truth, int_of, point_of, rect_of}
use Rattle.ti_lang.specs.Meaning.Comp.{Comp, gives, guard}
use Rattle.ti_lang.specs.Meaning.CellRefs.{viewed, domain_of}

-- the greatest size of a rectangular domain for which `size` doesn't fault
abbrev pub greatest_size : ℕ
greatest_size = 2147483647

-- the number of points of a domain
abbrev pub domain_size : Place → Held → Comp Held
domain_size at (Plain (v.Rc r)) = guard (nat_le (size_of r) greatest_size) DomainSize at (Plain (v.Int (pos (size_of r))))
domain_size at (Dm dim points) = gives (Plain (v.Int (pos (length points))))
domain_size at h = gives no_value

-- the point p, which is the least or the greatest of a rectangular domain; an empty domain is a fault
abbrev pub extreme : Place → Held → Point → Comp Held
extreme at h p = guard (not (is_empty (rect_of h))) EmptyDomain at (Plain (v.Pt p))

-- whether a domain contains a point
abbrev pub domain_has : Held → Point → Bool
domain_has (Plain (v.Rc r)) p = is_in r p
domain_has (Dm dim points) p = is_among points p
domain_has h p = false

-- the value of a built-in member of type `type` on a receiver of type `through`; `copy`, `exchange` and `delete` have no value
abbrev pub member_value : Place → ValueType → Option BuiltIn → ValueType → Held → List Held → Comp Held
member_value at type (Some Size) through h args = domain_size at h
member_value at type (Some Min) through h args = extreme at h (rect_of h).lo
member_value at type (Some Max) through h args = extreme at h (rect_of h).hi
member_value at type (Some Contains) through h args = gives (truth (domain_has h (point_of (slice_index_or args 0 no_value))))
member_value at type (Some Domain) through h args = domain_of at through h
member_value at type (Some Restrict) through h args = viewed at type (how.Restrict (rect_of (slice_index_or args 0 no_value))) through h
member_value at type (Some Translate) through h args = viewed at type (how.Translate (point_of (slice_index_or args 0 no_value))) through h
member_value at type (Some Slice) through h args =
    viewed at type (how.Slice (int_of (slice_index_or args 0 no_value)) (int_of (slice_index_or args 1 no_value))) through h
member_value at type other through h args = gives no_value
