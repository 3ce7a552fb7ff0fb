-- Owners: what a reference of local type names is in the memory of its own process.
use Rattle.std.specs.Prelude.{◌≡◌, ℕ, ◌<◌, Bool, true, List, [], ◌∷◌, ◌++◌, Some}
use Rattle.ti_base.specs.declared.place.Place.{Place}
use Rattle.ti_base.specs.declared.point.Point.{Point}
use Rattle.ti_base.specs.declared.point.Rect.{Rect}
use Rattle.ti_base.specs.declared.value.Id.{Id}
use Rattle.ti_base.specs.declared.value.Zero.{Zero}
use Rattle.ti_base.specs.declared.value.Value.{Value}
use Rattle.ti_base.specs.declared.value.Value.TheVariants as v
use Rattle.ti_base.specs.declared.action.Action.{Action}
use Rattle.ti_base.specs.declared.action.Action.TheVariants as act
use Rattle.ti_base.specs.declared.entry.Answer.{Answer}
use Rattle.ti_base.specs.declared.entry.Answer.TheVariants.{Val}
use Rattle.ti_base.specs.declared.entry.Entry.{Entry}
use Rattle.ti_base.specs.Cells.{Field, Element, named_by}
use Rattle.ti_lang.specs.Program.Types.{ValueType}
use Rattle.ti_lang.specs.Program.Types as t
use Rattle.ti_lang.specs.Typing.Kinds.{is_local}
use Rattle.ti_lang.specs.Typing.Declared.{field_type}
use Rattle.ti_lang.specs.Meaning.Held.{referent_of}
use Rattle.ti_lang.specs.Meaning.Comp.{Request, NewThing}
use Rattle.ti_lang.specs.Meaning.Processes.{RunConfig, Variable, Frame, Process}
use Rattle.ti_lang.specs.Meaning.Scoping.{declared_type}
use Rattle.ti_lang.specs.Meaning.Evaluation.{is_own}
use Rattle.ti_lang.specs.Meaning.Steps.{At, step}
use Rattle.ti_lang.specs.Meaning.NextStep.{Reaches}
use Rattle.ti_lang.specs.Meaning.Histories.{history_of}
use Rattle.ti_lang.specs.Meaning.HeapOf.{class_of_object, cell_value}
use Rattle.ti_lang.specs.Meaning.Runs.{ProcAfter}
use Rattle.ti_align.specs.Dangling.{used_by}

-- ---- actions

-- an action of a process through a reference of local type uses an object or grid in its own memory
abbrev pub IsOwnAction : ℕ → ValueType → Action → Type 0
IsOwnAction i through a = is_local through ≡ true → is_own i (used_by a) ≡ true

-- ---- variables

-- what a variable of local type names, if it isn't null, is in the memory of the process
abbrev pub IsOwnVariable : ℕ → Variable → Type 0
IsOwnVariable i x = is_local (declared_type x.named.declared) ≡ true → is_own i (referent_of x.held) ≡ true

-- this holds of each of these variables
abbrev pub AllOwn : ℕ → List Variable → Type 0
AllOwn i [] = Unit {0}
AllOwn i (x ∷ xs) = IsOwnVariable i x × AllOwn i xs

-- and of the variables of each of these frames
abbrev pub AllOwnIn : ℕ → List Frame → Type 0
AllOwnIn i [] = Unit {0}
AllOwnIn i (f ∷ fs) = AllOwn i f.variables × AllOwnIn i fs

-- ---- elements

-- A new grid of the run whose elements have this type: an entry of the run made it, and there the process requested a grid of such
-- elements.
pub record MadeWith (s : RunConfig) (es : List Entry) (grid : Id) (element : ValueType) : Type 0 where
  pub before : List Entry
  pub rest : List Entry
  pub number : ℕ
  pub place : Place
  pub zero : Zero
  pub domain : Rect
  pub region : ℕ
  pub split : es ≡ before ++ record {
    proc = number;
    place = place;
    act = act.NewGrid zero domain region;
    answer = Val (v.Grid (Some grid));
  } ∷ rest
  -- the process that made it
  pub process : Process
  pub world : ProcAfter s before number process
  pub settled : Process
  pub reaches : Reaches process settled
  pub through : ValueType
  pub dim : ℕ
  pub here : Bool
  pub go : Answer → Process
  pub stands : step settled ≡ At (record {
    place = place;
    action = act.NewGrid zero domain region;
    through = through;
    wanted = NewThing (t.Grid element dim here);
  }) go

-- ---- runs

-- For each process of the run, at any point between its actions, its local variables and its actions through local references name
-- objects and grids of its own; and what a field or an element of local type names is in the memory that the field or element is in.
pub record OwnersKept (s : RunConfig) (es : List Entry) : Type 0 where
  pub variables : (i : ℕ) (p q : Process) → i < s.procs → ProcAfter s es i p → Reaches p q → AllOwnIn i q.frames
  pub fields : (obj : Id) (class field : ℕ) (type : ValueType) (value : Value) → class_of_object obj (history_of es) ≡ Some class
      → field_type s.program class field ≡ Some type → is_local type ≡ true
      → cell_value s.program (Field obj field) (history_of es) ≡ Some value → is_own obj.owner (named_by value) ≡ true
  pub elements : (grid : Id) (at : Point) (element : ValueType) (value : Value) → MadeWith s es grid element → is_local element ≡ true
      → cell_value s.program (Element grid at) (history_of es) ≡ Some value → is_own grid.owner (named_by value) ≡ true
  pub actions : (i : ℕ) (p q : Process) (request : Request) (go : Answer → Process) → i < s.procs → ProcAfter s es i p → Reaches p q → step q
      ≡ At request go → IsOwnAction i request.through request.action
