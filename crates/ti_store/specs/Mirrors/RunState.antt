-- What is known of an action before it is performed. Used only by contracts of private functions and the invariant.
use Rattle.std.specs.Prelude.{◌≡◌, ℕ, ◌+◌, ◌-◌, ◌^◌, ◌<◌, ◌==◌, true, false, ◌&&◌, if◌then◌else◌, List, [], ◌∷◌, Option, None, Some, IfSome}
use Rattle.ti_base.specs.declared.place.Place.{Place}
use Rattle.ti_base.specs.declared.action.Action.{Action}
use Rattle.ti_base.specs.declared.action.Action.TheVariants as act
use Rattle.ti_base.specs.declared.action.CollKind.{CollKind}
use Rattle.ti_base.specs.declared.action.Deposit.{Deposit}
use Rattle.ti_base.specs.declared.action.Deposit.TheVariants as deposit
use Rattle.ti_base.specs.declared.entry.Answer.{Answer}
use Rattle.ti_base.specs.declared.entry.Answer.TheVariants.{Done, Val}
use Rattle.ti_base.specs.declared.entry.Entry.{Entry}
use Rattle.ti_base.specs.declared.value.Id.{Id}
use Rattle.ti_base.specs.Cells.{named_by}
use Rattle.ti_base.specs.declared.value.Zero.{Zero}
use Rattle.ti_base.specs.declared.value.Zero.TheVariants as z
use Rattle.ti_base.specs.Points.{IsDim}
use Rattle.ti_base.specs.Rects.{IsRect}
use Rattle.ti_lang.specs.Program.Classes.{ProgramView}
use Rattle.ti_lang.specs.Meaning.Histories.{History, history_of, is_arrival, is_departure, arrivals, departures, things_made}
use Rattle.ti_lang.specs.Meaning.RoundsOf.{last_arrival, rounds_making, is_delete_of}
use Rattle.ti_lang.specs.Meaning.RegionsOf.{is_made, is_gone, is_place}
use Rattle.ti_lang.specs.Meaning.HeapAnswers.{Outcome, Answers, Impossible, heap_answer}
use Rattle.ti_align.specs.Formed.{IsFormedAction}
use Rattle.ti_align.specs.Dangling.{NamesLiving}
use Rattle.ti_store.specs.Mirrors.Regions.{IsRegionNumber, LeavesDelete}

-- if the initial value of a field or an element is a point or a domain, it has one to three dimensions
abbrev pub IsFormedZero : Zero → Type 0
IsFormedZero (z.Pt dim) = IsDim dim
IsFormedZero (z.Rc dim) = IsDim dim
IsFormedZero zero = Unit {0}

-- the values, points and domains of an action are canonical, and the initial value of a new grid's elements has a valid dimension
abbrev pub AllFormed : Action → Type 0
AllFormed (act.NewGrid zero domain region) = IsFormedZero zero × IsRect domain
AllFormed a = IsFormedAction a

-- every entry is of one of these processes, and its action is canonical
abbrev pub AreOurs : ℕ → History → Type 0
AreOurs procs [] = Unit {0}
AreOurs procs (e ∷ h) = (e.proc < procs) × AllFormed e.act × AreOurs procs h

-- the outcome isn't that the action is impossible
abbrev pub IsPossible : Outcome → Type 0
IsPossible Impossible = ⊥
IsPossible outcome = Unit {0}

-- kind, place and argument of an arrival
abbrev pub collective_in : Place → Action → Option (CollKind × Place × Option ℕ)
collective_in at (act.Arrive kind arg given) = Some (kind, at, arg)
collective_in at a = None

-- kind, place and argument of the arrival of process i at this collective, counted from 1
abbrev pub collective_at : ℕ → ℕ → History → Option (CollKind × Place × Option ℕ)
collective_at i round [] = None
collective_at i round (e ∷ earlier) =
    if e.proc == i && is_arrival e.act && arrivals i (e ∷ earlier) == round then collective_in e.place e.act else collective_at i round
    earlier

-- all processes have arrived at the collective at which process p waits
abbrev pub AllArrived : ℕ → ℕ → List Entry → Type 0
AllArrived procs p es = (j : ℕ) → j < procs → departures p es < arrivals j es

-- all processes that have arrived at the next collective of process p arrived at this one
abbrev pub AgreesWith : ℕ → List Entry → CollKind × Place × Option ℕ → Type 0
AgreesWith p es said = (q : ℕ) → IfSome (collective_at q (arrivals p es + 1) (history_of es)) (λ other. other ≡ said)

-- the object or grid that an action writes as a value
abbrev pub thing_written : Action → Option Id
thing_written (act.PutField obj field value) = named_by value
thing_written (act.PutElem grid at value) = named_by value
thing_written a = None

-- what is known of the regions when a process performs an action
pub record KnowsRegions (program : ProgramView) (procs : ℕ) (h : History) (p : ℕ) (at : Place) (a : Action) : Type 0 where
  pub living : NamesLiving h a
  pub written : (id : Id) → thing_written a ≡ Some id → is_place id.region h ≡ true
  pub numbered : (r : ℕ) → is_place r h ≡ true → IsRegionNumber h r
  pub gone_made : (r : ℕ) → is_gone r h ≡ true → is_made r h ≡ true
  pub nowhere : is_gone 0 h ≡ false
  -- nor is 0 after the action
  pub nowhere_behind : (answer : Answer) → heap_answer program h p a ≡ Answers answer
      → is_gone 0 (record { proc = p; place = at; act = a; answer = answer } ∷ h) ≡ false
  pub leaving : is_departure a ≡ true → (r : ℕ) → is_delete_of r (last_arrival p h) ≡ true → LeavesDelete procs h p r

-- what is known of an action that a process may perform
pub record MayDo (program : ProgramView) (procs : ℕ) (es : List Entry) (p : ℕ) (at : Place) (a : Action) : Type 0 where
  pub possible : IsPossible (heap_answer program (history_of es) p a)
  pub formed : AllFormed a
  pub few : rounds_making p (history_of es) < 2 ^ 32 - 1
  pub things : things_made p (history_of es) < 2 ^ 32 - 1
  pub balance : arrivals p es ≡ departures p es + (if is_departure a then 1 else 0)
  pub arrived : is_departure a ≡ true → AllArrived procs p es
  pub agrees : (said : CollKind × Place × Option ℕ) → collective_in at a ≡ Some said → heap_answer program (history_of es) p a
      ≡ Answers Done → AgreesWith p es said
  pub regions : KnowsRegions program procs (history_of es) p at a

-- the answer that passes on a contribution
abbrev pub answer_given : Deposit → Answer
answer_given (deposit.One value) = Val value
answer_given given = Done
