-- Runtime values: what variables hold, the zero of each type, and conversion to a type.
use Rattle.std.specs.Prelude.{ℕ, ℤ, pos, Bool, false, if◌then◌else◌, List, [], Option, None}
use Rattle.ti_base.specs.declared.point.Point.{Point}
use Rattle.ti_base.specs.declared.point.Rect.{Rect}
use Rattle.ti_base.specs.declared.value.Id.{Id}
use Rattle.ti_base.specs.declared.value.Value.{Value}
use Rattle.ti_base.specs.declared.value.Value.TheVariants as v
use Rattle.ti_base.specs.WholeNumbers.{to_long, to_int}
use Rattle.ti_base.specs.Rects.{points_of, empty_rect}
use Rattle.ti_base.specs.Cells.{named_by}
use Rattle.ti_base.specs.Forms.{is_dim}
use Rattle.ti_lang.specs.Program.Types.{ValueType}
use Rattle.ti_lang.specs.Program.Types as t

-- a value of a cell, or a domain as the strictly increasing list of its points
pub data Held : Type 0 where
  Plain : (value : Value) → Held
  Dm : (dim : ℕ) (points : List Point) → Held

-- the placeholder if there is no value
abbrev pub no_value : Held
no_value = Plain (v.Bool false)

-- a boolean
abbrev pub truth : Bool → Held
truth b = Plain (v.Bool b)

-- the point whose coordinates are 0
abbrev pub zero_point : ℕ → Point
zero_point dim = record { dim = dim; x1 = pos 0; x2 = pos 0; x3 = pos 0 }

-- ---- projections; a value of another kind, which doesn't occur in a program that breaks no rule, yields a zero

-- the number of an int or a long
abbrev pub whole_of : Held → ℤ
whole_of (Plain (v.Int n)) = n
whole_of (Plain (v.Long n)) = n
whole_of h = pos 0

-- the number of an int
abbrev pub int_of : Held → ℤ
int_of (Plain (v.Int n)) = n
int_of h = pos 0

-- the value of a boolean
abbrev pub truth_of : Held → Bool
truth_of (Plain (v.Bool b)) = b
truth_of h = false

-- the value of a point
abbrev pub point_of : Held → Point
point_of (Plain (v.Pt p)) = p
point_of h = zero_point 1

-- the value of a rectangular domain
abbrev pub rect_of : Held → Rect
rect_of (Plain (v.Rc r)) = r
rect_of h = empty_rect 1

-- the number of a region
abbrev pub region_of : Held → ℕ
region_of (Plain (v.Region n)) = n
region_of h = 0

-- the object or grid that a reference refers to; None for `null`
abbrev pub referent_of : Held → Option Id
referent_of (Plain value) = named_by value
referent_of (Dm dim points) = None

-- the value as it is stored in a cell or passed to an action
abbrev pub plain_of : Held → Value
plain_of (Plain value) = value
plain_of (Dm dim points) = v.Bool false

-- the points of a domain, rectangular or not, in lexicographic order
abbrev pub points_in : Held → List Point
points_in (Plain (v.Rc r)) = points_of r
points_in (Dm dim points) = points
points_in h = []

-- the dimension of a domain, rectangular or not
abbrev pub dim_of : Held → ℕ
dim_of (Plain (v.Rc r)) = r.dim
dim_of (Dm dim points) = dim
dim_of h = 1

-- ---- values of types

-- the value, if this is a valid number of dimensions; no program has a type with another
abbrev pub where_dim : ℕ → Held → Held
where_dim dim h = if is_dim dim then h else no_value

-- the zero of a type: what a new variable, field or element of the type holds
abbrev pub zero_of : ValueType → Held
zero_of t.Int = Plain (v.Int (pos 0))
zero_of t.Long = Plain (v.Long (pos 0))
zero_of t.Boolean = Plain (v.Bool false)
zero_of (t.Pt dim) = where_dim dim (Plain (v.Pt (zero_point dim)))
zero_of (t.Rc dim) = where_dim dim (Plain (v.Rc (empty_rect dim)))
zero_of (t.Dm dim) = where_dim dim (Dm dim [])
zero_of t.Region = Plain (v.Region 0)
zero_of (t.Class class is_local) = Plain (v.Obj None)
zero_of (t.Grid element dim is_local) = Plain (v.Grid None)
zero_of t.Null = Plain (v.Obj None)
zero_of t.Void = no_value

-- converts a number or a reference to a type: an int to a long, a long to an int by truncation, `null` to the `null` of the type;
-- other values are unchanged
abbrev pub as_type : ValueType → Held → Held
as_type t.Long (Plain (v.Int n)) = Plain (v.Long (to_long n))
as_type t.Int (Plain (v.Long n)) = Plain (v.Int (to_int n))
as_type (t.Class class is_local) h = Plain (v.Obj (referent_of h))
as_type (t.Grid element dim is_local) h = Plain (v.Grid (referent_of h))
as_type type h = h
