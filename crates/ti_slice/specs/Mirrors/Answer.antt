-- The outcomes that the program slice consumes, and the collectives that it reaches.
use Rattle.std.specs.Prelude.{◌≡◌, ℕ, ◌+◌, Bool, true, false, List, [], ◌∷◌, ◌++◌, Option, Some, None}
use Rattle.ti_base.specs.declared.place.Place.{Place}
use Rattle.ti_base.specs.declared.action.CollKind.{CollKind}
use Rattle.ti_base.specs.declared.action.Deposit.{Deposit}
use Rattle.ti_base.specs.declared.action.Action.{Action}
use Rattle.ti_base.specs.declared.action.Action.TheVariants as act
use Rattle.ti_base.specs.declared.entry.Answer.{Answer}
use Rattle.ti_base.specs.declared.entry.Answer.TheVariants.{Done}
use Rattle.ti_lang.specs.Program.Classes.{ProgramView}
use Rattle.ti_lang.specs.Meaning.Comp.{Wanted, ToBeDone, Request}
use Rattle.ti_lang.specs.Meaning.Answers.{FitsWanted}
use Rattle.ti_lang.specs.Meaning.Processes.{RunConfig, Wait, Process, begin}
use Rattle.ti_lang.specs.Meaning.Steps.{To, At, Ends, Faults}
use Rattle.ti_align.specs.declared.slices.SliceStep.{SliceStep}
use Rattle.ti_align.specs.declared.slices.SliceStep.TheVariants as answer
use Rattle.ti_align.specs.Slice.{slice_step, deletes_one, fault_if_deleted, deleted_by, SliceComes}
use Rattle.ti_exec.specs.declared.process.ControlMode.{ControlMode}
use Rattle.ti_exec.specs.declared.process.ControlMode.TheVariants as mode
use Rattle.ti_exec.specs.declared.process.OnAnswer.{OnAnswer}
use Rattle.ti_exec.specs.declared.process.TreeMachine.{TreeMachine}
use Rattle.ti_exec.specs.States.{process_of, after_answer}
use Rattle.ti_slice.specs.declared.slice_stop.SliceStop.{SliceStop}
use Rattle.ti_slice.specs.declared.slice_stop.SliceStop.TheVariants as stand
use Rattle.ti_slice.specs.declared.answer.Slice.{Slice}

-- ---- which processes the slice reaches

-- The slice reaches this process, which waits at no collective, by steps of its own and by departures, whatever their outcomes.
pub data Free : RunConfig → Process → Type 0 where
  begins : {n : RunConfig} → Free n (begin n 0)
  goes : {n : RunConfig} {p q : Process} → Free n p → slice_step p ≡ To q → Free n q
  leaves : {n : RunConfig} {p : Process} {request leave : Request} {go back : Answer → Process} {r : Answer} →
      Free n p → slice_step p ≡ At request go → slice_step (go Done) ≡ At leave back → Free n (back r)

-- The slice of this program reaches this process in some setting.
abbrev pub IsFree : ProgramView → Process → Type 0
IsFree c p = (n : RunConfig) × (n.program ≡ c) × Free n p

-- What the slice has next from the second process, it has next from the first.
abbrev pub Leads : Process → Process → Type 0
Leads p q = (gone : List ℕ) (k : ℕ) (rest : List Answer) (x : SliceStep) → SliceComes q gone k rest x → SliceComes p gone k rest x

-- ---- where the slice is suspended

-- The action is an arrival.
abbrev pub IsArrival : Action → Type 0
IsArrival (act.Arrive kind arg given) = Unit {0}
IsArrival a = ⊥

-- The slice requests the arrival at a collective, which isn't the deletion of a deleted region.
pub record Arrives (c : ProgramView) (w : TreeMachine) (gone : List ℕ) (kind : CollKind) (arg : Option ℕ) (at : Place)
    (on_answer : OnAnswer) : Type 0 where
  pub request : Request
  pub go : Answer → Process
  pub given : Deposit
  pub is : slice_step (process_of c w) ≡ At request go
  pub arrival : request.action ≡ act.Arrive kind arg given
  pub place : request.place ≡ at
  pub stays : deletes_one gone request.action ≡ false
  pub goes : (r : Answer) → go r ≡ after_answer c w on_answer r

-- The suspension of the slice, as the code represents it.
abbrev pub IsSliceStop : ProgramView → TreeMachine → List ℕ → SliceStop → Type 0
IsSliceStop c w gone (stand.Arrives kind arg at on_answer) = Arrives c w gone kind arg at on_answer
IsSliceStop c w gone stand.Ends = (at : Place) × (fault_if_deleted gone (slice_step (process_of c w)) ≡ Ends at)
IsSliceStop c w gone (stand.Fails kind at) = fault_if_deleted gone (slice_step (process_of c w)) ≡ Faults kind at

-- The slice runs silent steps up to where it is suspended.
pub record RunsToStop (c : ProgramView) (old : TreeMachine) (gone : List ℕ) (s : SliceStop) (new : TreeMachine) : Type 0 where
  pub free : IsFree c (process_of c new)
  pub leads : Leads (process_of c old) (process_of c new)
  pub stands : IsSliceStop c new gone s

-- ---- collectives

-- The process waits at a collective.
abbrev pub IsWaiting : ControlMode → Type 0
IsWaiting (mode.Waits collective t) = Unit {0}
IsWaiting (mode.Expects collective) = Unit {0}
IsWaiting m = ⊥

-- What the answer to a departure must be.
abbrev pub wanted_of : Option Wait → Wanted
wanted_of None = ToBeDone
wanted_of (Some w) = w.wanted

-- Whether an outcome fits what is expected, as the code represents it.
abbrev pub OutcomeFits : Wanted → Answer → Bool → Type 0
OutcomeFits wanted r true = FitsWanted wanted r
OutcomeFits wanted r false = FitsWanted wanted r → ⊥

-- The region that a collective deletes, as a list.
abbrev pub region_list : Option ℕ → List ℕ
region_list None = []
region_list (Some r) = r ∷ []

-- The slice leaves the collective at which it waits, with this outcome.
pub record LeavesCollective (c : ProgramView) (old : Slice) (r : Answer) (new : Slice) : Type 0 where
  pub request : Request
  pub go : Answer → Process
  pub is : slice_step (process_of c old.machine) ≡ At request go
  pub departure : request.action ≡ act.Depart
  pub fits : FitsWanted request.wanted r
  pub behind : go r ≡ process_of c new.machine
  pub gone : new.gone.items ≡ deleted_by (process_of c old.machine).wait ++ old.gone.items

-- Whether the slice leaves the collective with this outcome.
abbrev pub Departs : ProgramView → Slice → Answer → Slice → Bool → Type 0
Departs c old r new true = LeavesCollective c old r new
Departs c old r new false = (k : ℕ) (rest : List Answer) → SliceComes (process_of c old.machine) old.gone.items k (r ∷ rest) (answer.Unfit k)

-- Whether the slice reaches its next collective and leaves it with this outcome.
abbrev pub SliceMeets : ProgramView → Slice → Answer → Slice → Bool → Type 0
SliceMeets c old r new true =
    IsFree c (process_of c new.machine)
    × ((k : ℕ) (rest : List Answer) (x : SliceStep) → SliceComes (process_of c new.machine) new.gone.items (k + 1) rest x
    → SliceComes (process_of c old.machine) old.gone.items k (r ∷ rest) x)
SliceMeets c old r new false = (k : ℕ) (rest : List Answer) → SliceComes (process_of c old.machine) old.gone.items k (r ∷ rest) (answer.Unfit k)
