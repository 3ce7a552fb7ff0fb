-- Which objects, grids and regions exist at a moment of a run, and which values are of which type then.
use Rattle.std.specs.Prelude.{◌≡◌, ℕ, Bool, true, false, List, [], ◌∷◌, Option, Some, None, ◌⊎◌, ◌≤◌, ℤ, length}
use Rattle.std.specs.Int.{w32, w64}
use Rattle.ti_base.specs.declared.value.Id.{Id}
use Rattle.ti_base.specs.declared.action.Deposit.{Deposit}
use Rattle.ti_base.specs.Points.{IsDim}
use Rattle.ti_base.specs.WholeNumbers.{Fits}
use Rattle.ti_base.specs.declared.point.Point.{Point}
use Rattle.ti_base.specs.Cells.{Grid}
use Rattle.ti_base.specs.declared.point.Rect.{Rect}
use Rattle.ti_base.specs.PointSets.{Rises}
use Rattle.ti_base.specs.declared.action.Deposit.TheVariants as deposit
use Rattle.ti_base.specs.declared.value.Value.TheVariants as v
use Rattle.ti_lang.specs.Program.Types.{ValueType, Declaration}
use Rattle.ti_lang.specs.Program.Classes.{NumberedMethod}
use Rattle.ti_lang.specs.Program.Scope.{this_of}
use Rattle.ti_lang.specs.Typing.Kinds.{is_local, is_void}
use Rattle.ti_lang.specs.Meaning.Held.{Held, Plain, Dm}
use Rattle.ti_lang.specs.Meaning.Processes.{Variable, Frame}
use Rattle.ti_lang.specs.Meaning.Answers.{IsPointOf, IsRectOf}
use Rattle.ti_lang.specs.Meaning.Conversions.{most_points}
use Rattle.ti_lang.specs.Meaning.Evaluation.{is_own}
use Rattle.ti_lang.specs.Program.Types as t

-- ---- objects and grids

-- what exists, as seen by a process: the class of each object, each grid, the element type of each block, and the regions that were made
pub record HeapTyping : Type 0 where
  -- the process: its local references name objects and grids in its own memory
  pub owner : ℕ
  pub class_at : Id → Option ℕ
  pub grid_at : Id → Option Grid
  pub element_at : Id → Option ValueType
  pub is_made : ℕ → Bool

-- what exists, as seen by process i
abbrev pub with_owner : ℕ → HeapTyping → HeapTyping
with_owner i w = record w { owner = i }

-- all that exists in the first exists in the second, seen by the same process
pub record Grows (u w : HeapTyping) : Type 0 where
  pub owner : u.owner ≡ w.owner
  pub classes : (id : Id) (class : ℕ) → u.class_at id ≡ Some class → w.class_at id ≡ Some class
  pub grids : (id : Id) (g : Grid) → u.grid_at id ≡ Some g → w.grid_at id ≡ Some g
  pub elements : (id : Id) (type : ValueType) → u.element_at id ≡ Some type → w.element_at id ≡ Some type
  pub regions : (r : ℕ) → u.is_made r ≡ true → w.is_made r ≡ true

-- ---- values of types

-- all points have n dimensions and coordinates of 32 bits
abbrev pub ArePoints : ℕ → List Point → Type 0
ArePoints n [] = Unit {0}
ArePoints n (p ∷ ps) = IsPointOf n p × ArePoints n ps

-- a domain of n dimensions: its list of points is strictly increasing, and not longer than allowed
pub record IsDomainOf (n : ℕ) (ps : List Point) : Type 0 where
  pub points : ArePoints n ps
  pub rises : Rises ps
  pub few : length ps ≤ most_points

-- a type that a field or an element may have; points and rectangular domains have one to three dimensions
abbrev pub IsStorable : ValueType → Type 0
IsStorable (t.Pt n) = IsDim n
IsStorable (t.Rc n) = IsDim n
IsStorable (t.Dm n) = ⊥
IsStorable t.Region = ⊥
IsStorable t.Null = ⊥
IsStorable t.Void = ⊥
IsStorable type = Unit {0}

-- the name is that of a grid of n dimensions, whose elements have this type; it is in the same memory as its elements
abbrev pub IsGridOf : HeapTyping → ValueType → ℕ → Id → Type 0
IsGridOf w element n id = (g : Grid) × (w.grid_at id ≡ Some g) × IsRectOf n g.domain × (w.element_at g.block ≡ Some element)
    × IsStorable element × (g.block.owner ≡ id.owner)

-- objects can be placed there: in none (0), or in a region that was made (compare `is_place`, of a history)
abbrev pub IsPlaced : HeapTyping → ℕ → Type 0
IsPlaced w r = (r ≡ 0) ⊎ (w.is_made r ≡ true)

-- if the reference is local and not null, what it names is in the memory of the process
abbrev pub IsOwn : HeapTyping → Bool → Option Id → Type 0
IsOwn w is_local o = is_local ≡ true → is_own w.owner o ≡ true

-- A value of the type, in its canonical form; a reference is null, or names an object of the class, or a grid of the element type and
-- dimensions, which is in the process's own memory if the type is local.
abbrev pub IsOf : HeapTyping → ValueType → Held → Type 0
IsOf w t.Int h = (n : ℤ) × (h ≡ Plain (v.Int n)) × Fits w32 n
IsOf w t.Long h = (n : ℤ) × (h ≡ Plain (v.Long n)) × Fits w64 n
IsOf w t.Boolean h = (b : Bool) × (h ≡ Plain (v.Bool b))
IsOf w (t.Pt n) h = (p : Point) × (h ≡ Plain (v.Pt p)) × IsPointOf n p
IsOf w (t.Rc n) h = (r : Rect) × (h ≡ Plain (v.Rc r)) × IsRectOf n r
IsOf w (t.Dm n) h = (ps : List Point) × (h ≡ Dm n ps) × IsDomainOf n ps
IsOf w t.Region h = (r : ℕ) × (h ≡ Plain (v.Region r)) × IsPlaced w r
IsOf w (t.Class class is_local) h =
    (o : Option Id) × (h ≡ Plain (v.Obj o)) × ((id : Id) → o ≡ Some id → w.class_at id ≡ Some class) × IsOwn w is_local o
IsOf w (t.Grid element n is_local) h =
    (o : Option Id) × (h ≡ Plain (v.Grid o)) × ((id : Id) → o ≡ Some id → IsGridOf w element n id) × IsOwn w is_local o
IsOf w t.Null h = h ≡ Plain (v.Obj None)
IsOf w t.Void h = Unit {0}

-- a reference of the type may name this: an object of the class, or a grid of the element type and dimensions
abbrev pub IsThingOf : HeapTyping → ValueType → Id → Type 0
IsThingOf w (t.Class class is_local) id = w.class_at id ≡ Some class
IsThingOf w (t.Grid element n is_local) id = IsGridOf w element n id
IsThingOf w type id = ⊥

-- a type whose values name no object, grid or region
abbrev pub NamesNothing : ValueType → Type 0
NamesNothing t.Int = Unit {0}
NamesNothing t.Long = Unit {0}
NamesNothing t.Boolean = Unit {0}
NamesNothing (t.Pt n) = Unit {0}
NamesNothing (t.Rc n) = Unit {0}
NamesNothing type = ⊥

-- points, domains and grids in the type have one to three dimensions
abbrev pub DimsFine : ValueType → Type 0
DimsFine (t.Pt n) = IsDim n
DimsFine (t.Rc n) = IsDim n
DimsFine (t.Dm n) = IsDim n
DimsFine (t.Grid element n is_local) = IsDim n × DimsFine element
DimsFine type = Unit {0}

-- ---- variables and contributions

-- a variable with this declaration holds a value of its type; none is declared without a type
abbrev pub HoldsOf : HeapTyping → Declaration → Held → Type 0
HoldsOf w (t.Typed is_single type) h = IsOf w type h
HoldsOf w t.Foreach h = ⊥

-- each variable holds a value of its type
abbrev pub VariablesFit : HeapTyping → List Variable → Type 0
VariablesFit w [] = Unit {0}
VariablesFit w (x ∷ xs) = HoldsOf w x.named.declared x.held × VariablesFit w xs

-- `this`, if there is one, is an object of the method's class
abbrev pub ThisFits : HeapTyping → NumberedMethod → Option Id → Type 0
ThisFits w m this = (class : ℕ) → this_of m ≡ Some class → (id : Id) → this ≡ Some id → w.class_at id ≡ Some class

-- the variables and `this` of each call in progress agree with the types
abbrev pub FramesHold : HeapTyping → List Frame → Type 0
FramesHold w [] = Unit {0}
FramesHold w (f ∷ fs) = VariablesFit w f.variables × ThisFits w f.method f.this × FramesHold w fs

-- a contributed value is of this type, which isn't void or local
abbrev pub DepositFits : HeapTyping → ValueType → Deposit → Type 0
DepositFits w type (deposit.One value) = IsOf w type (Plain value) × (is_void type ≡ false) × (is_local type ≡ false)
DepositFits w type given = Unit {0}
