-- The next point of the union of two sets.
use Rattle.std.specs.Prelude.{◌≡◌, ◌⊎◌, Option, Some, None, MatchOption}
use Rattle.ti_base.specs.declared.point.Point.{Point}
use Rattle.ti_base.specs.Points.{pt_lex_lt}
use Rattle.ti_base.specs.PointSets.{IsNextAfter, NoneAfter}

-- the smaller of two points; if only one is given, that one
abbrev pub IsSooner : Option Point → Option Point → Option Point → Type 0
IsSooner None b r = r ≡ b
IsSooner (Some p) None r = r ≡ Some p
IsSooner (Some p) (Some q) r = (pt_lex_lt q p × (r ≡ Some q)) ⊎ ((pt_lex_lt q p → ⊥) × (r ≡ Some p))

-- if both points are given, they have the same dimension
abbrev pub AgreeInDim : Option Point → Option Point → Type 0
AgreeInDim (Some p) (Some q) = q.dim ≡ p.dim
AgreeInDim a b = Unit {0}

-- the first point of the set above the given one, or None if there is none
abbrev pub IsNextPoint : (Point → Type 0) → Option Point → Option Point → Type 0
IsNextPoint Members p q = MatchOption q (NoneAfter Members p) (λ next. IsNextAfter Members p next)
