-- What must exist for an action, and which answers fit it.
use Rattle.std.specs.Prelude.{◌≡◌, ℕ, Bool, true, List, Some, ◌<◌, ◌-◌}
use Rattle.std.specs.Int.{w32}
use Rattle.ti_base.specs.declared.value.Id.{Id}
use Rattle.ti_base.specs.declared.value.Zero.{Zero}
use Rattle.ti_base.specs.Points.{IsDim}
use Rattle.ti_base.specs.WholeNumbers.{Fits}
use Rattle.ti_base.specs.declared.action.Action.{Action}
use Rattle.ti_base.specs.declared.entry.Answer.{Answer}
use Rattle.ti_base.specs.declared.action.ViewHow.{ViewHow}
use Rattle.ti_base.specs.declared.action.ViewHow.TheVariants.{Restrict, Translate, Slice}
use Rattle.ti_base.specs.declared.action.Action.TheVariants as act
use Rattle.ti_lang.specs.Program.Types.{ValueType}
use Rattle.ti_lang.specs.Program.Classes.{ProgramView}
use Rattle.ti_lang.specs.Typing.Kinds.{as_global}
use Rattle.ti_lang.specs.Meaning.Held.{Plain}
use Rattle.ti_lang.specs.Meaning.Comp.{Wanted, ToBeDone, ValueOf, NewThing, told}
use Rattle.ti_lang.specs.Meaning.Zeros.{zeros_of_class, zero_of_type}
use Rattle.ti_lang.specs.Typing.Declared.{field_type}
use Rattle.ti_lang.specs.Meaning.Answers.{IsPointOf, IsRectOf}
use Rattle.ti_lang.specs.Program.Types as t
use Rattle.ti_align.specs.HeapTyping.{HeapTyping, IsStorable, IsGridOf, IsPlaced, IsOf, with_owner, IsThingOf}
use Rattle.ti_align.specs.Dangling.{used_by}
use Rattle.ti_align.specs.Owners.{IsOwnAction}

-- ---- requests

-- how a view of a grid of n dimensions is taken: the domain, point or numbers are valid for n
abbrev pub SuitsView : ViewHow → ℕ → Type 0
SuitsView (Restrict r) n = IsRectOf n r
SuitsView (Translate by) n = IsPointOf n by
SuitsView (Slice k j) n = (1 < n) × Fits w32 k × Fits w32 j

-- the dimensions of the view
abbrev pub dims_viewed : ViewHow → ℕ → ℕ
dims_viewed (Slice k j) n = n - 1
dims_viewed how n = n

-- a field of this type of an existing object
abbrev pub IsFieldOf : ProgramView → HeapTyping → Id → ℕ → ValueType → Type 0
IsFieldOf p w obj field type = (class : ℕ) × (w.class_at obj ≡ Some class) × (field_type p class field ≡ Some type)

-- what an action names exists; what is written to a cell is of its type, as the process sees it whose memory the cell is in
abbrev pub OperandsExist : ProgramView → HeapTyping → Action → Wanted → Type 0
OperandsExist p w (act.GetField obj field) wanted = (type : ValueType) × IsFieldOf p w obj field type
OperandsExist p w (act.PutField obj field value) wanted =
    (type : ValueType) × IsFieldOf p w obj field type × IsOf (with_owner obj.owner w) type (Plain value)
OperandsExist p w (act.NewObj class region) wanted = (zeros : List Zero) × (zeros_of_class p class ≡ Some zeros) × IsPlaced w region
OperandsExist p w (act.NewGrid zero domain region) wanted =
    (element : ValueType) × (n : ℕ) × (wanted ≡ NewThing (t.Grid element n true)) × (zero ≡ zero_of_type element) × IsRectOf n domain
    × IsDim n × IsPlaced w region × IsStorable element
OperandsExist p w (act.GetElem grid at) wanted = (element : ValueType) × (n : ℕ) × IsGridOf w element n grid × IsPointOf n at
OperandsExist p w (act.PutElem grid at value) wanted =
    (element : ValueType) × (n : ℕ) × IsGridOf w element n grid × IsPointOf n at × IsOf (with_owner grid.owner w) element (Plain value)
OperandsExist p w (act.MakeView grid how) wanted = (element : ValueType) × (n : ℕ) × IsGridOf w element n grid × SuitsView how n
OperandsExist p w (act.DomainOf grid) wanted = (element : ValueType) × (n : ℕ) × IsGridOf w element n grid
OperandsExist p w a wanted = Unit {0}

-- two types whose values have one form: they are equal, up to being local
abbrev pub SameForm : ValueType → ValueType → Type 0
SameForm a b = as_global a ≡ as_global b

-- the process expects a new grid, of some elements and dimensions
abbrev pub WantsGrid : Wanted → Type 0
WantsGrid wanted = (element : ValueType) × (n : ℕ) × (is_local : Bool) × (wanted ≡ NewThing (t.Grid element n is_local))

-- What a process expects is what the action yields: a value in the form of the cell that is read, a domain of the grid's dimensions, a
-- new object or grid, a value that an element may have, and otherwise nothing. What a departure yields is determined by its collective.
abbrev pub SuitsWanted : ProgramView → HeapTyping → Action → Wanted → Type 0
SuitsWanted p w (act.GetField obj field) wanted =
    (type : ValueType) × (u : ValueType) × IsFieldOf p w obj field type × (wanted ≡ ValueOf u) × SameForm u type
SuitsWanted p w (act.GetElem grid at) wanted =
    (element : ValueType) × (u : ValueType) × (n : ℕ) × IsGridOf w element n grid × (wanted ≡ ValueOf u) × SameForm u element
SuitsWanted p w (act.DomainOf grid) wanted = (element : ValueType) × (n : ℕ) × IsGridOf w element n grid × (wanted ≡ ValueOf (t.Rc n))
SuitsWanted p w (act.NewObj class region) wanted = wanted ≡ NewThing (t.Class class true)
SuitsWanted p w (act.NewGrid zero domain region) wanted = WantsGrid wanted
SuitsWanted p w (act.MakeView grid how) wanted = WantsGrid wanted
SuitsWanted p w (act.Take who) wanted = (type : ValueType) × (wanted ≡ ValueOf type) × IsStorable type
SuitsWanted p w act.Depart wanted = Unit {0}
SuitsWanted p w a wanted = wanted ≡ ToBeDone

-- the action goes through a reference of this type: it uses an object or grid of the type, which is in the memory of the process if the
-- type is local
abbrev pub GoesThrough : HeapTyping → ValueType → Action → Type 0
GoesThrough w through a = IsOwnAction w.owner through a × ((id : Id) → used_by a ≡ Some id → IsThingOf w through id)

-- ---- answers

-- the answer fits the action; what is read from a cell is of its type, as the process sees it whose memory the cell is in
abbrev pub FitsAsked : ProgramView → HeapTyping → Action → Wanted → Answer → Type 0
FitsAsked p w (act.GetField obj field) wanted r =
    (type : ValueType) → IsFieldOf p w obj field type → IsOf (with_owner obj.owner w) type (told r)
FitsAsked p w (act.NewObj class region) wanted r = IsOf w (t.Class class true) (told r)
FitsAsked p w (act.NewGrid zero domain region) wanted r =
    (element : ValueType) (n : ℕ) → wanted ≡ NewThing (t.Grid element n true) → IsOf w (t.Grid element n true) (told r)
FitsAsked p w (act.GetElem grid at) wanted r =
    (element : ValueType) (n : ℕ) → IsGridOf w element n grid → IsOf (with_owner grid.owner w) element (told r)
FitsAsked p w (act.MakeView grid how) wanted r = (element : ValueType) (n : ℕ) → IsGridOf w element n grid
    → IsOf (with_owner grid.owner w) (t.Grid element (dims_viewed how n) true) (told r)
FitsAsked p w (act.DomainOf grid) wanted r = (element : ValueType) (n : ℕ) → IsGridOf w element n grid → IsOf w (t.Rc n) (told r)
FitsAsked p w (act.Take who) wanted r = (type : ValueType) → wanted ≡ ValueOf type → IsOf w type (told r)
FitsAsked p w a wanted r = Unit {0}
