-- Access to cells, domains and views through references, which may be `null`.
use Rattle.std.specs.Prelude.{Bool, true, false, ℕ, pred, ℤ, pos, if◌then◌else◌, int_le, List, slice_get, slice_index_or, None}
use Rattle.ti_base.specs.declared.place.Place.{Place}
use Rattle.ti_base.specs.declared.point.Point.{Point}
use Rattle.ti_base.specs.declared.value.Value.TheVariants as v
use Rattle.ti_base.specs.declared.fault.FaultKind.TheVariants.{Bounds}
use Rattle.ti_base.specs.declared.action.Action.TheVariants as act
use Rattle.ti_base.specs.declared.action.ViewHow.{ViewHow}
use Rattle.ti_base.specs.Ranges.{natural}
use Rattle.ti_lang.specs.Program.Types.{ValueType}
use Rattle.ti_lang.specs.Program.Types as t
use Rattle.ti_lang.specs.Typing.Kinds.{dim_of_type}
use Rattle.ti_lang.specs.Meaning.Held.{Held, Plain, point_of}
use Rattle.ti_lang.specs.Meaning.Comp.{ValueOf, NewThing, Reference, request_through, Comp, ◌>>=◌, gives, found_or, asked, needed}
use Rattle.ti_lang.specs.Meaning.Literals as literal

-- ---- cells

-- a cell that an expression names: a field of an object or an element of a grid, with the static type of the reference
pub data Part : Type 0 where
  Field : (object : Held) (through : ValueType) (field : ℕ) → Part
  Element : (grid : Held) (through : ValueType) (index : Point) → Part

-- reads a cell, whose static type is `type`
abbrev pub fetched : Place → ValueType → Part → Comp Held
fetched at type (Field object through field) = do
  r ← needed at through object
  asked (request_through r at (act.GetField r.thing field) (ValueOf type))
fetched at type (Element grid through index) = do
  r ← needed at through grid
  asked (request_through r at (act.GetElem r.thing index) (ValueOf type))

-- ---- grids

-- the domain of a grid, by an action
abbrev pub domain_asked : Place → Reference → Comp Held
domain_asked at r = asked (request_through r at (act.DomainOf r.thing) (ValueOf (t.Rc (dim_of_type r.type))))

-- the domain of the grid that a value of type `through` refers to
abbrev pub domain_of : Place → ValueType → Held → Comp Held
domain_of at through grid = do
  r ← needed at through grid
  domain_asked at r

-- a view, of type `type`, of the grid that a value of type `through` refers to
abbrev pub viewed : Place → ValueType → ViewHow → ValueType → Held → Comp Held
viewed at type view through grid = do
  r ← needed at through grid
  asked (request_through r at (act.MakeView r.thing view) (NewThing type))

-- ---- indices

-- the coordinate of a point with this number, from 1; another number is a fault
abbrev pub coordinate : Place → Point → ℤ → Comp Held
coordinate at p k = do
  x ← found_or Bounds at (if int_le (pos 1) k then slice_get (literal.coordinates_of p) (pred (natural k)) else None)
  gives (Plain (v.Int x))

-- `e[..]`: a coordinate if `e` is statically a point, and otherwise an element of type `type` of a grid of type `through`
abbrev pub indexed : Bool → Place → ValueType → ValueType → Held → List ℤ → Comp Held
indexed true at type through h indices = coordinate at (point_of h) (slice_index_or indices 0 (pos 0))
indexed false at type through h indices = fetched at type (Element h through (literal.point_of_numbers indices))
