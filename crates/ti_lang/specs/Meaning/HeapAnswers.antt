-- The answer of the heap, the regions and the rounds to an action of a process, as a function of the history.
use Rattle.std.specs.Prelude.{◌≡◌, [], ◌∷◌, ℕ, ◌+◌, ◌==◌, Bool, ◌&&◌, not, nat_lt, if◌then◌else◌, Option, Some, None}
use Rattle.ti_base.specs.declared.point.Point.{Point}
use Rattle.ti_base.specs.declared.value.Value.{Value}
use Rattle.ti_base.specs.declared.value.Value.TheVariants as v
use Rattle.ti_base.specs.declared.fault.FaultKind.{FaultKind}
use Rattle.ti_base.specs.declared.fault.FaultKind.TheVariants as fault
use Rattle.ti_base.specs.declared.action.CollKind.{CollKind}
use Rattle.ti_base.specs.declared.action.CollKind.TheVariants as coll
use Rattle.ti_base.specs.declared.action.Action.{Action}
use Rattle.ti_base.specs.declared.action.Action.TheVariants as act
use Rattle.ti_base.specs.declared.entry.Answer.{Answer}
use Rattle.ti_base.specs.declared.entry.Answer.TheVariants.{Done, Val}
use Rattle.ti_base.specs.declared.entry.Entry.{Entry}
use Rattle.ti_base.specs.Rects.{is_in}
use Rattle.ti_base.specs.Cells.{Field, Grid, cell_of, suits, view_fault}
use Rattle.ti_lang.specs.Program.Classes.{ProgramView}
use Rattle.ti_lang.specs.Meaning.Histories.{History}
use Rattle.ti_lang.specs.Meaning.RoundsOf.{round_of, last_arrival, deposit_from, was_left, rounds_making}
use Rattle.ti_lang.specs.Meaning.RegionsOf.{is_made, is_gone, is_place}
use Rattle.ti_base.specs.Forms.{is_dim}
use Rattle.ti_lang.specs.Meaning.Zeros.{zeros_of_class}
use Rattle.ti_lang.specs.Meaning.HeapOf.{grid_of_id, new_id, view_id, cell_value, cost_of, cost_of_making, most_cells}
use Rattle.ti_lang.specs.Meaning.RegionUse.{is_in_use}

-- an answer; or a fault; or none, and then the process can't perform the action
pub data Outcome : Type 0 where
  Answers : (answer : Answer) → Outcome
  Faults : (kind : FaultKind) → Outcome
  Impossible : Outcome

-- the outcome for the contents of an option; impossible if it is empty
abbrev pub where_some : {A : Type 0} → Option A → (A → Outcome) → Outcome
where_some None go = Impossible
where_some (Some a) go = go a

-- the outcome if the test holds; otherwise impossible
abbrev pub possible_if : Bool → Outcome → Outcome
possible_if test outcome = if test then outcome else Impossible

-- a fault if the test holds; otherwise the outcome
abbrev pub faults_if : Bool → FaultKind → Outcome → Outcome
faults_if test kind outcome = if test then Faults kind else outcome

-- answers with the contents of a cell; impossible if there is no such cell
abbrev pub answers_value : Option Value → Outcome
answers_value value = where_some value (λ x. Answers (Val x))

-- ---- objects and grids

-- the creation of something, unless the process would be charged too many cells
abbrev pub makes : ProgramView → History → ℕ → Action → Value → Outcome
makes program h i a made =
    faults_if (nat_lt most_cells (cost_of program i h + cost_of_making program a)) fault.HeapFull (Answers (Val made))

-- an allocation in a region, which must be 0 (none) or have been created; a fault if it has been deleted
abbrev pub places : ℕ → History → Outcome → Outcome
places region h outcome = possible_if (is_place region h) (faults_if (is_gone region h) fault.RegionGone outcome)

-- an access to a grid at a point, which must have the grid's dimension; a fault if the point is outside the grid's domain
abbrev pub at_point : Grid → Point → Outcome → Outcome
at_point g at outcome = possible_if (at.dim == g.domain.dim) (faults_if (not (is_in g.domain at)) fault.Bounds outcome)

-- the creation of a view, unless it faults
abbrev pub views : Option FaultKind → Outcome → Outcome
views None outcome = outcome
views (Some kind) outcome = Faults kind

-- ---- departures

-- the departure from a delete: only the first process to leave checks whether the region is in use
abbrev pub leaves_delete : ProgramView → History → ℕ → Option ℕ → Outcome
leaves_delete program h round None = Impossible
leaves_delete program h round (Some r) = faults_if (not (was_left round h) && is_in_use program r round h) fault.RegionInUse (Answers Done)

-- the departure of process i from the round of its last arrival, which had this kind and argument
abbrev pub departs : ProgramView → History → ℕ → CollKind → Option ℕ → Outcome
departs program h i coll.Barrier arg = Answers Done
departs program h i coll.Exchange arg = Answers Done
departs program h i coll.Broadcast arg = where_some arg (λ root. answers_value (deposit_from i root h))
departs program h i coll.MakeRegion arg = Answers (Val (v.Region (rounds_making i h)))
departs program h i coll.DeleteRegion arg = leaves_delete program h (round_of i h) arg

-- an arrival; at the delete of a region it is a fault if the region has been deleted already
abbrev pub arrives : History → CollKind → Option ℕ → Outcome
arrives h coll.DeleteRegion arg = where_some arg (λ r. possible_if (is_made r h) (faults_if (is_gone r h) fault.RegionGone (Answers Done)))
arrives h kind arg = Answers Done

-- ---- the answer

-- the outcome of an action of process i after this history
abbrev pub heap_answer : ProgramView → History → ℕ → Action → Outcome
heap_answer program h i (act.GetField obj field) = answers_value (cell_value program (Field obj field) h)
heap_answer program h i (act.PutField obj field value) = where_some (cell_value program (Field obj field) h) (λ old. Answers Done)
heap_answer program h i (act.NewObj class region) =
    where_some (zeros_of_class program class) (λ zeros.
    places region h (makes program h i (act.NewObj class region) (v.Obj (Some (new_id i region h)))))
heap_answer program h i (act.NewGrid zero domain region) =
    possible_if (is_dim domain.dim) (places region h (makes program h i (act.NewGrid zero domain region)
    (v.Grid (Some (new_id i region h)))))
heap_answer program h i (act.GetElem grid at) =
    where_some (grid_of_id grid h) (λ g. at_point g at (answers_value (cell_value program (cell_of g at) h)))
heap_answer program h i (act.PutElem grid at value) = where_some (grid_of_id grid h) (λ g. at_point g at (Answers Done))
heap_answer program h i (act.MakeView grid how) =
    where_some (grid_of_id grid h) (λ g. possible_if (suits how g.domain) (views (view_fault how g.domain)
    (makes program h i (act.MakeView grid how) (v.Grid (Some (view_id i grid h))))))
heap_answer program h i (act.DomainOf grid) = where_some (grid_of_id grid h) (λ g. Answers (Val (v.Rc g.domain)))
heap_answer program h i (act.Print literal value) = Answers Done
heap_answer program h i (act.Arrive kind arg deposit) = arrives h kind arg
heap_answer program h i act.Depart = where_some (last_arrival i h) (λ a. departs program h i a.kind a.arg)
heap_answer program h i (act.Take who) = answers_value (deposit_from i who h)
heap_answer program h i act.End = Answers Done
heap_answer program h i (act.Fault kind) = Answers Done

-- each entry of the history has the answer that the entries before it determine
pub data IsAnswered (program : ProgramView) : History → Type 0 where
  none : IsAnswered program []
  more : {h : History} {e : Entry} → IsAnswered program h → heap_answer program h e.proc e.act ≡ Answers e.answer
      → IsAnswered program (e ∷ h)
