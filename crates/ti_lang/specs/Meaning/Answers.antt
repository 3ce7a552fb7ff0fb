-- Which answers are well-formed for what a process has next: what a process may assume of its environment.
use Rattle.std.specs.Prelude.{◌≡◌, ◌<◌, ◌^◌, ℕ, true, Option, None, Some, is_some}
use Rattle.std.specs.Int.{w32, w64}
use Rattle.ti_base.specs.declared.point.Point.{Point}
use Rattle.ti_base.specs.declared.point.Rect.{Rect}
use Rattle.ti_base.specs.declared.value.Id.{Id}
use Rattle.ti_base.specs.declared.value.Value.{Value}
use Rattle.ti_base.specs.declared.value.Value.TheVariants as v
use Rattle.ti_base.specs.declared.entry.Answer.{Answer}
use Rattle.ti_base.specs.declared.entry.Answer.TheVariants.{Done, Val}
use Rattle.ti_base.specs.WholeNumbers.{Fits}
use Rattle.ti_base.specs.Points.{IsPoint, HasCoordinates}
use Rattle.ti_base.specs.Rects.{IsRect}
use Rattle.ti_base.specs.Cells.{named_by}
use Rattle.ti_lang.specs.Program.Types.{ValueType}
use Rattle.ti_lang.specs.Program.Types as t
use Rattle.ti_lang.specs.Meaning.Comp.{Wanted, ToBeDone, ValueOf, NewThing, Request}
use Rattle.ti_lang.specs.Meaning.Processes.{Process}
use Rattle.ti_lang.specs.Meaning.Steps.{At, step}
use Rattle.ti_lang.specs.Meaning.NextStep.{Reaches}

-- ---- values of types

-- an unsigned 32-bit number
abbrev pub IsCount : ℕ → Type 0
IsCount n = n < 2 ^ 32

-- a point of this dimension, in canonical form, with 32-bit coordinates
pub record IsPointOf (dim : ℕ) (p : Point) : Type 0 where
  pub form : IsPoint p
  pub dim_is : p.dim ≡ dim
  pub coordinates : HasCoordinates p

-- a rectangular domain of this dimension, in canonical form
pub record IsRectOf (dim : ℕ) (r : Rect) : Type 0 where
  pub form : IsRect r
  pub dim_is : r.dim ≡ dim
  pub low : IsPointOf dim r.lo
  pub high : IsPointOf dim r.hi

-- the name, if there is one, has components in range
abbrev pub IsName : Option Id → Type 0
IsName None = Unit {0}
IsName (Some id) = IsCount id.maker × IsCount id.serial × IsCount id.owner × IsCount id.region

-- the value has the form of the type; the form doesn't include the class, the element type or locality
abbrev pub HasForm : ValueType → Value → Type 0
HasForm t.Int (v.Int n) = Fits w32 n
HasForm t.Long (v.Long n) = Fits w64 n
HasForm t.Boolean (v.Bool b) = Unit {0}
HasForm (t.Pt dim) (v.Pt p) = IsPointOf dim p
HasForm (t.Rc dim) (v.Rc r) = IsRectOf dim r
HasForm t.Region (v.Region n) = IsCount n
HasForm (t.Class class is_local) (v.Obj id) = IsName id
HasForm (t.Grid element dim is_local) (v.Grid id) = IsName id
HasForm type value = ⊥

-- ---- answers

-- the answer is well-formed for what the action requests
abbrev pub FitsWanted : Wanted → Answer → Type 0
FitsWanted ToBeDone r = r ≡ Done
FitsWanted (ValueOf type) r = (value : Value) × (r ≡ Val value) × HasForm type value
FitsWanted (NewThing type) r = (value : Value) × (r ≡ Val value) × HasForm type value × (is_some (named_by value) ≡ true)

-- the answer is well-formed for the action that process p has next
pub record FitsAction (p : Process) (r : Answer) : Type 0 where
  -- the configuration in which the process performs the action, after its silent steps
  pub settled : Process
  pub reaches : Reaches p settled
  pub request : Request
  pub go : Answer → Process
  pub stands : step settled ≡ At request go
  pub fits : FitsWanted request.wanted r
