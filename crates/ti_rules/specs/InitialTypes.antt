-- The types of right sides.
use Rattle.std.specs.Prelude.{ℕ, Bool, true, not, ◌&&◌, if◌then◌else◌, List, Option, Some, None, option_map, option_and_then}
use Rattle.ti_lang.specs.Members.{only_if}
use Rattle.ti_lang.specs.Program.Types.{ValueType, Int, Long, Boolean, Pt, Rc, Region, Class, Grid}
use Rattle.ti_lang.specs.Program.Expressions.{NumberedExp, numbered_ranges}
use Rattle.ti_lang.specs.Program.Statements.{NumberedDims, NumberedInit}
use Rattle.ti_lang.specs.Program.Statements as st
use Rattle.ti_lang.specs.Program.Classes.{ProgramView}
use Rattle.ti_lang.specs.Program.Scope.{ScopeContents}
use Rattle.ti_lang.specs.Typing.Kinds.{where_true, same_type, is_void, is_reference, as_global}
use Rattle.ti_lang.specs.Typing.Expressions.{and_then_both, is_int, rect_literal, range_count, bounds, expr_type, operand_type}

-- ---- values

-- the type of an expression that is a whole right side: a call is allowed, but not a void one
abbrev pub right_side_type : ProgramView → ScopeContents → NumberedExp → Option ValueType
right_side_type p s e = only_if (λ t. not (is_void t)) (expr_type p s e)

-- ---- broadcasts

-- a value of this type can be broadcast
abbrev pub can_broadcast : ValueType → Bool
can_broadcast Int = true
can_broadcast Long = true
can_broadcast Boolean = true
can_broadcast (Pt n) = true
can_broadcast (Rc n) = true
can_broadcast t = is_reference t

-- the type of a broadcast, from the types of its value and root: a reference becomes global
abbrev pub broadcast_type : ValueType → ValueType → Option ValueType
broadcast_type t root = where_true (can_broadcast t && is_int root) (as_global t)

-- ---- objects and grids

-- the type of the region of a `new`; that of a region if none is given
abbrev pub region_type : ProgramView → ScopeContents → Option NumberedExp → Option ValueType
region_type p s None = Some Region
region_type p s (Some r) = operand_type p s r

-- the type is that of a region
abbrev pub is_region_type : ValueType → Bool
is_region_type t = same_type t Region

-- the type of a new object of a class, with an operand of this type as its region
abbrev pub object_type : ℕ → ValueType → Option ValueType
object_type class region = where_true (is_region_type region) (Class class true)

-- the types in the domain of a new grid: of a domain, or of the bounds and strides of this number of ranges
pub data Spread : Type 0 where
  Over : (t : ValueType) → Spread
  Ranged : (ranges : ℕ) (ts : List ValueType) → Spread

-- the types in the domain of a new grid, if all its expressions have types
abbrev pub dims_spread : ProgramView → ScopeContents → NumberedDims → Option Spread
dims_spread p s (st.Domain x) = option_map Over (operand_type p s x)
dims_spread p s (st.Ranges ranges) = option_map (Ranged (range_count (numbered_ranges ranges))) (bounds p s (numbered_ranges ranges))

-- the type of the domain; ranges are typed as in a literal
abbrev pub spread_type : Spread → Option ValueType
spread_type (Over t) = Some t
spread_type (Ranged ranges ts) = rect_literal ranges ts

-- the type of a new grid with these elements over a domain of this type, which must be rectangular
abbrev pub grid_over : ValueType → ValueType → Option ValueType
grid_over element (Rc n) = Some (Grid element n true)
grid_over element _ = None

-- the type of a new grid with these elements, with an operand of this type as its region
abbrev pub new_grid_type : ValueType → ValueType → Spread → Option ValueType
new_grid_type element region over = if is_region_type region then option_and_then (grid_over element) (spread_type over) else None

-- ---- right sides

-- the type of a whole right side; None if a typing rule is broken in it
abbrev pub initial_type : ProgramView → ScopeContents → NumberedInit → Option ValueType
initial_type p s (st.Value x) = right_side_type p s x
initial_type p s (st.NewRegion at) = Some Region
initial_type p s (st.NewObject at region class) = option_and_then (object_type class) (region_type p s region)
initial_type p s (st.NewGrid at region element dims_at dims) = and_then_both (region_type p s region) (dims_spread p s dims) (new_grid_type element.type)
initial_type p s (st.Broadcast at x root) = and_then_both (operand_type p s x) (operand_type p s root) broadcast_type
