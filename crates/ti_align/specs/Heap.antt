-- When the heap of a history agrees with the static types of a program.
use Rattle.std.specs.Prelude.{◌≡◌, ℕ, Bool, true, false, ◌∷◌, Option, Some, if◌then◌else◌}
use Rattle.ti_base.specs.declared.place.Place.{Place}
use Rattle.ti_base.specs.declared.value.Id.{Id}
use Rattle.ti_base.specs.declared.value.Value.{Value}
use Rattle.ti_base.specs.declared.action.Action.{Action}
use Rattle.ti_base.specs.declared.entry.Answer.{Answer}
use Rattle.ti_base.specs.Cells.{Field, Element, Cell, thing_of, Grid, same_id}
use Rattle.ti_base.specs.declared.entry.Answer.TheVariants.{Val}
use Rattle.ti_base.specs.declared.action.Action.TheVariants as act
use Rattle.ti_base.specs.declared.value.Value.TheVariants as v
use Rattle.ti_lang.specs.Program.Types.{ValueType}
use Rattle.ti_lang.specs.Program.Classes.{ProgramView}
use Rattle.ti_lang.specs.Meaning.Held.{Plain}
use Rattle.ti_lang.specs.Meaning.Comp.{Wanted, NewThing}
use Rattle.ti_lang.specs.Typing.Declared.{field_type}
use Rattle.ti_lang.specs.Meaning.HeapOf.{class_of_object, grid_of_id, last_written}
use Rattle.ti_lang.specs.Meaning.Zeros.{zero_of_type}
use Rattle.ti_lang.specs.Meaning.Histories.{History}
use Rattle.ti_lang.specs.Meaning.RegionsOf.{is_made}
use Rattle.ti_lang.specs.Meaning.HeapAnswers.{Answers, Impossible, heap_answer}
use Rattle.ti_lang.specs.Program.Types as t
use Rattle.ti_align.specs.HeapTyping.{HeapTyping, IsStorable, IsOf, Grows, DimsFine}
use Rattle.ti_align.specs.Existing.{IsFieldOf, FitsAsked}

-- the types of the elements of blocks (a block is a grid that is no view of another)
abbrev pub Elements : Type 0
Elements = Id → Option ValueType

-- what exists for process i after a history, if the elements of blocks have these types
abbrev pub heap_typing_of : ℕ → Elements → History → HeapTyping
heap_typing_of i elements h =
    record { owner = i; class_at = λ id. class_of_object id h; grid_at = λ id. grid_of_id id h; element_at = elements; is_made = λ r. is_made r h }

-- the block is a grid of zeros of the type of its elements, which elements may have
abbrev pub IsBlock : History → Id → ValueType → Type 0
IsBlock h block type = (g : Grid) × (grid_of_id block h ≡ Some g) × (g.zero ≡ zero_of_type type) × IsStorable type

-- in the types of all fields, points, domains and grids have one to three dimensions
abbrev pub FieldsFit : ProgramView → Type 0
FieldsFit p = (class field : ℕ) (type : ValueType) → field_type p class field ≡ Some type → DimsFine type

-- all fields have types that fields may have
abbrev pub FieldsStorable : ProgramView → Type 0
FieldsStorable p = (class field : ℕ) (type : ValueType) → field_type p class field ≡ Some type → IsStorable type

-- the cell may hold the value: it is a field or an element of the value's type
abbrev pub MayHold : ProgramView → HeapTyping → Cell → Value → Type 0
MayHold p w (Field obj field) value = (type : ValueType) × IsFieldOf p w obj field type × IsOf w type (Plain value)
MayHold p w (Element block at) value = (type : ValueType) × (w.element_at block ≡ Some type) × IsOf w type (Plain value)

-- what was written to cells is of their types, as the process sees them whose memory they are in; each block is a grid of zeros of its
-- elements' type
pub record HeapFits (p : ProgramView) (elements : Elements) (h : History) : Type 0 where
  pub cells : (cell : Cell) (value : Value) → last_written cell h ≡ Some value
      → MayHold p (heap_typing_of (thing_of cell).owner elements h) cell value
  pub blocks : (block : Id) (type : ValueType) → elements block ≡ Some type → IsBlock h block type

-- ---- an action

-- the types of elements after an action: a new grid is a block of its own
abbrev pub elements_behind : Elements → Action → Wanted → Answer → Elements
elements_behind elements (act.NewGrid zero domain region) (NewThing (t.Grid element n is_local)) (Val (v.Grid (Some new))) =
    λ id. if same_id id new then Some element else elements id
elements_behind elements a wanted answer = elements

-- an action of the heap: one that makes, reads or writes an object or grid
abbrev pub is_of_heap : Action → Bool
is_of_heap (act.Print literal value) = false
is_of_heap (act.Arrive kind arg given) = false
is_of_heap act.Depart = false
is_of_heap (act.Take who) = false
is_of_heap act.End = false
is_of_heap (act.Fault kind) = false
is_of_heap a = true

-- What follows if what an action names exists: it is possible, after it the heap still agrees with the types, all that existed still
-- exists, and the answer fits. The last is stated of heap actions only: other answers come from other processes.
pub record KeepsTypes (p : ProgramView) (elements : Elements) (h : History) (i : ℕ) (a : Action) (wanted : Wanted) : Type 0 where
  pub possible : is_of_heap a ≡ true → heap_answer p h i a ≡ Impossible → ⊥
  pub kept : (place : Place) (r : Answer) → heap_answer p h i a ≡ Answers r
      → HeapFits p (elements_behind elements a wanted r) (record { proc = i; place = place; act = a; answer = r } ∷ h)
  pub grown : (place : Place) (r : Answer) → heap_answer p h i a ≡ Answers r
      → Grows (heap_typing_of i elements h) (heap_typing_of i (elements_behind elements a wanted r)
      (record { proc = i; place = place; act = a; answer = r } ∷ h))
  pub answered : (place : Place) (r : Answer) → is_of_heap a ≡ true → heap_answer p h i a ≡ Answers r
      → FitsAsked p (heap_typing_of i (elements_behind elements a wanted r) (record { proc = i; place = place; act = a; answer = r } ∷ h)) a
      wanted r
