-- Ways of processes: from one process to another, with the collectives that it comes to and leaves.
use Rattle.std.specs.Prelude.{◌≡◌, ℕ, suc, false, List, [], ◌∷◌, slice_get, Option, None, Some}
use Rattle.ti_base.specs.declared.place.Place.{Place}
use Rattle.ti_base.specs.declared.action.Action.{Action}
use Rattle.ti_base.specs.declared.action.Action.TheVariants as act
use Rattle.ti_base.specs.declared.action.CollKind.{CollKind}
use Rattle.ti_base.specs.declared.action.Deposit.{Deposit}
use Rattle.ti_base.specs.declared.entry.Answer.{Answer}
use Rattle.ti_base.specs.declared.entry.Entry.{Entry}
use Rattle.ti_lang.specs.Program.Types.{ValueType}
use Rattle.ti_lang.specs.Meaning.Comp.{Wanted, Request}
use Rattle.ti_lang.specs.Meaning.Processes.{Wait, Process}
use Rattle.ti_lang.specs.Meaning.Steps.{To, At, step}
use Rattle.ti_lang.specs.Meaning.Histories.{is_arrival, is_departure}
pub use Rattle.ti_align.specs.Slice.{answers_at_departures}

-- through which type an action is asked, and for what
abbrev pub Asked : Type 0
Asked = ValueType × Wanted

-- a request from its parts
abbrev pub asking : Place → Action → Asked → Request
asking at a wanted = record { place = at; action = a; through = wanted.0; wanted = wanted.1 }

-- what all processes see of a way: an arrival with its place, kind and argument, and a departure with its answer
pub data Meeting : Type 0 where
  Came : (at : Place) (kind : CollKind) (arg : Option ℕ) → Meeting
  Left : (answer : Answer) → Meeting

-- a process makes silent steps and actions, which get answers
pub data Way : Process → List Meeting → Process → Type 0 where
  stop : {p : Process} → Way p [] p
  silent : {p q r : Process} {ms : List Meeting} → step p ≡ To q → Way q ms r → Way p ms r
  alone : {p r : Process} {ms : List Meeting} {at : Place} {a : Action} {wanted : Asked} {go : Answer → Process} {answer : Answer} →
      step p ≡ At (asking at a wanted) go → is_arrival a ≡ false → is_departure a ≡ false → Way (go answer) ms r → Way p ms r
  came : {p r : Process} {ms : List Meeting} {at : Place} {kind : CollKind} {arg : Option ℕ} {given : Deposit} {wanted : Asked} {go : Answer → Process} {answer : Answer} →
      step p ≡ At (asking at (act.Arrive kind arg given) wanted) go → Way (go answer) ms r → Way p (Came at kind arg ∷ ms) r
  left : {p r : Process} {ms : List Meeting} {at : Place} {wanted : Asked} {go : Answer → Process} {answer : Answer} →
      step p ≡ At (asking at act.Depart wanted) go → Way (go answer) ms r → Way p (Left answer ∷ ms) r

-- how many arrivals there are
abbrev pub comings : List Meeting → ℕ
comings [] = 0
comings (Came at kind arg ∷ ms) = suc (comings ms)
comings (Left answer ∷ ms) = comings ms

-- of which kind the last arrival is, where it was this one before
abbrev pub last_from : Option CollKind → List Meeting → Option CollKind
last_from before [] = before
last_from before (Came at kind arg ∷ ms) = last_from (Some kind) ms
last_from before (Left answer ∷ ms) = last_from before ms

-- what the departures were answered
abbrev pub answers_left : List Meeting → List Answer
answers_left [] = []
answers_left (Came at kind arg ∷ ms) = answers_left ms
answers_left (Left answer ∷ ms) = answer ∷ answers_left ms

-- departures of one number were answered the same
abbrev pub SameAnswers : List Meeting → List Meeting → Type 0
SameAnswers ms ns = (k : ℕ) (r t : Answer) → slice_get (answers_left ms) k ≡ Some r → slice_get (answers_left ns) k ≡ Some t → r ≡ t

-- in a run, departures of one number were answered the same
abbrev pub SameDepartures : List Entry → Type 0
SameDepartures es = (i j k : ℕ) (r t : Answer) → slice_get (answers_at_departures i es) k ≡ Some r → slice_get (answers_at_departures j es) k ≡ Some t → r ≡ t

-- 1 for a process that waits at a collective
abbrev pub waiting : Option Wait → ℕ
waiting None = 0
waiting (Some w) = 1
