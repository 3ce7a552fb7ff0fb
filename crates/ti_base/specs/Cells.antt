-- Memory cells, and grids as maps from points to cells.
use Rattle.std.specs.Prelude.{◌≡◌, ℕ, ◌+◌, ◌<◌, Bool, false, ◌&&◌, ◌||◌, not, ◌==◌, nat_lt, ℤ, pos, ◌^◌, neg_ℤ, int_lt, int_le, if◌then◌else◌, Option, Some, None}
use Rattle.ti_base.specs.declared.point.Point.{Point}
use Rattle.ti_base.specs.declared.point.Rect.{Rect}
use Rattle.ti_base.specs.declared.value.Id.{Id}
use Rattle.ti_base.specs.declared.value.Value.{Value}
use Rattle.ti_base.specs.declared.value.Value.TheVariants as v
use Rattle.ti_base.specs.declared.value.Zero.{Zero}
use Rattle.ti_base.specs.declared.value.Zero.TheVariants as z
use Rattle.ti_base.specs.declared.action.ViewHow.{ViewHow}
use Rattle.ti_base.specs.declared.action.ViewHow.TheVariants.{Restrict, Translate, Slice}
use Rattle.ti_base.specs.declared.fault.FaultKind.{FaultKind}
use Rattle.ti_base.specs.declared.fault.FaultKind.TheVariants.{Bounds, Range}
use Rattle.ti_base.specs.Points.{translate_point, moved_back}
use Rattle.ti_base.specs.PointSets.{same_number, same_point}
use Rattle.ti_base.specs.Ranges as range
use Rattle.ti_base.specs.Rects.{first_range, second_range, third_range, is_empty, empty_rect, meet, translate_rect, without}

-- ---- cells

-- a memory cell: a field of an object, or an element of a block (the storage of a grid)
pub data Cell : Type 0 where
  Field : (obj : Id) (field : ℕ) → Cell
  Element : (block : Id) (at : Point) → Cell

abbrev pub same_id : Id → Id → Bool
same_id a b = a.maker == b.maker && a.serial == b.serial && a.owner == b.owner && a.region == b.region

abbrev pub same_cell : Cell → Cell → Bool
same_cell (Field a f) (Field b g) = same_id a b && f == g
same_cell (Element a p) (Element b q) = same_id a b && same_point p q
same_cell (Field a f) (Element b q) = false
same_cell (Element a p) (Field b g) = false

-- the object or block that the cell belongs to
abbrev pub thing_of : Cell → Id
thing_of (Field obj field) = obj
thing_of (Element block at) = block

-- the initial value of a cell
abbrev pub zero_value : Zero → Value
zero_value z.Int = v.Int (pos 0)
zero_value z.Long = v.Long (pos 0)
zero_value z.Bool = v.Bool false
zero_value (z.Pt dim) = v.Pt (record { dim = dim; x1 = pos 0; x2 = pos 0; x3 = pos 0 })
zero_value (z.Rc dim) = v.Rc (empty_rect dim)
zero_value z.Obj = v.Obj None
zero_value z.Grid = v.Grid None

-- the object or grid that a value refers to
abbrev pub named_by : Value → Option Id
named_by (v.Obj id) = id
named_by (v.Grid id) = id
named_by value = None

-- ---- grids

-- a grid: its domain, and a map from points to points of its block, which a view shares with the grid that it is of
pub record Grid : Type 0 where
  pub block : Id
  pub zero : Zero
  pub domain : Rect
  pub place : Point → Point

-- the cell at a point
abbrev pub cell_of : Grid → Point → Cell
cell_of g p = Element g.block (g.place p)

-- a new grid: the map is the identity
abbrev pub whole_grid : Id → Zero → Rect → Grid
whole_grid id zero domain = record { block = id; zero = zero; domain = domain; place = λ p. p }

-- ---- views

-- the point with coordinate k, counted from 1, inserted
abbrev pub with_coordinate : ℤ → ℤ → Point → Point
with_coordinate k j p =
    if same_number k (pos 1) then record { dim = p.dim + 1; x1 = j; x2 = p.x1; x3 = p.x2 }
    else if same_number k (pos 2) then record { dim = p.dim + 1; x1 = p.x1; x2 = j; x3 = p.x2 }
    else record { dim = p.dim + 1; x1 = p.x1; x2 = p.x2; x3 = j }

-- the domain of a view
abbrev pub view_domain : ViewHow → Rect → Rect
view_domain (Restrict r) domain = meet domain r
view_domain (Translate by) domain = translate_rect domain by
view_domain (Slice k j) domain = without (range.natural k) domain

-- the point of the viewed grid that corresponds to a point of the view
abbrev pub seen_point : ViewHow → Point → Point
seen_point (Restrict r) p = p
seen_point (Translate by) p = moved_back p by
seen_point (Slice k j) p = with_coordinate k j p

-- a view of a grid, which shares its cells
abbrev pub view : ViewHow → Grid → Grid
view how g = record { block = g.block; zero = g.zero; domain = view_domain how g.domain; place = λ p. g.place (seen_point how p) }

-- ---- conditions of views

-- whether the view is possible by the grid's number of dimensions
abbrev pub suits : ViewHow → Rect → Bool
suits (Restrict r) domain = r.dim == domain.dim
suits (Translate by) domain = by.dim == domain.dim
suits (Slice k j) domain = nat_lt 1 domain.dim

-- whether a coordinate fits in 32 bits
abbrev pub is_coordinate : ℤ → Bool
is_coordinate x = int_le (neg_ℤ (pos (2 ^ 31))) x && int_lt x (pos (2 ^ 31))

abbrev pub are_coordinates : Point → Bool
are_coordinates p = is_coordinate p.x1 && is_coordinate p.x2 && is_coordinate p.x3

-- whether a point of the domain, shifted, doesn't fit in 32 bits; it suffices to test the least and the greatest one
abbrev pub leaves : Rect → Point → Bool
leaves domain by = not (is_empty domain) && not (are_coordinates (translate_point domain.lo by) && are_coordinates (translate_point domain.hi by))

-- whether some point of the domain has j as its coordinate k
abbrev pub has_coordinate : Rect → ℤ → ℤ → Bool
has_coordinate domain k j =
    not (is_empty domain)
    && (same_number k (pos 1) && range.is_on (first_range domain) j
    || same_number k (pos 2) && not (domain.dim == 1) && range.is_on (second_range domain) j
    || same_number k (pos 3) && domain.dim == 3 && range.is_on (third_range domain) j)

-- the fault of creating a view, if there is one
abbrev pub view_fault : ViewHow → Rect → Option FaultKind
view_fault (Restrict r) domain = None
view_fault (Translate by) domain = if leaves domain by then Some Range else None
view_fault (Slice k j) domain = if has_coordinate domain k j then None else Some Bounds

-- p and q agree in the coordinates that aren't used
abbrev pub AgreeUnused : ℕ → Point → Point → Type 0
AgreeUnused dim p q = (dim < 2 → p.x2 ≡ q.x2) × (dim < 3 → p.x3 ≡ q.x3)

-- different points have different cells
abbrev pub IsOneToOne : Grid → Type 0
IsOneToOne g = (p q : Point) → p.dim ≡ g.domain.dim → q.dim ≡ g.domain.dim → AgreeUnused g.domain.dim p q → g.place p ≡ g.place q → p ≡ q
