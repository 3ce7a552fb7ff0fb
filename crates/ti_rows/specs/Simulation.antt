-- The canonical run, in which always the lowest-numbered process that can take an entry does so, as a simple and slow program.
use Rattle.std.specs.Prelude.{ℕ, zero, suc, ◌+◌, nat_lt, ◌&&◌, if◌then◌else◌, Bool, true, false, List, [], ◌∷◌, ◌++◌}
use Rattle.ti_base.specs.declared.action.Action.{Action}
use Rattle.ti_base.specs.declared.action.Action.TheVariants as act
use Rattle.ti_base.specs.declared.entry.Answer.TheVariants.{Done}
use Rattle.ti_base.specs.declared.entry.Answer.{Answer}
use Rattle.ti_base.specs.declared.entry.Entry.{Entry}
use Rattle.ti_lang.specs.Meaning.Comp.{Request}
use Rattle.ti_lang.specs.Meaning.Processes.{RunConfig, Process, begin}
use Rattle.ti_lang.specs.Meaning.Steps.{Step, To, At, Ends, Faults, step}
use Rattle.ti_lang.specs.Meaning.Histories.{is_fault, history_of, arrivals, departures}
use Rattle.ti_lang.specs.Meaning.HeapAnswers.{Outcome, Answers, Impossible, heap_answer}
use Rattle.ti_lang.specs.Meaning.HeapAnswers as heap

-- ---- silent steps

-- continues from a silent step
abbrev pub settle_by : (Process → Step) → Step → Step
settle_by go (To q) = go q
settle_by go s = s

-- the step after at most n silent ones
abbrev pub settle : ℕ → Process → Step
settle zero p = step p
settle (suc n) p = settle_by (settle n) (step p)

-- the maximal number of silent steps that are made between two entries
abbrev pub most_silent : ℕ
most_silent = 1000

-- ---- one process

-- a process of the run, with its number and whether it has ended
pub record Slot : Type 0 where
  pub number : ℕ
  pub ended : Bool
  pub process : Process

-- n processes before their first steps, numbered from i on
abbrev pub slots : RunConfig → ℕ → ℕ → List Slot
slots s i zero = []
slots s i (suc n) = record { number = i; ended = false; process = begin s i } ∷ slots s (i + 1) n

-- all of n processes, numbered from j on, have arrived more often than the given number of times
abbrev pub have_arrived : List Entry → ℕ → ℕ → ℕ → Bool
have_arrived es times j zero = true
have_arrived es times j (suc n) = nat_lt times (arrivals j es) && have_arrived es times (j + 1) n

-- a departure waits until all processes have arrived
abbrev pub is_ready : RunConfig → List Entry → ℕ → Action → Bool
is_ready s es i act.Depart = have_arrived es (departures i es) 0 s.procs
is_ready s es i a = true

-- what a process does next: it waits, or takes an entry and is then in this state; or it makes too many silent steps to know
pub data Taking : Type 0 where
  Waits : Taking
  Takes : (slot : Slot) (e : Entry) → Taking
  Unknown : Taking

-- the entry of an action with its outcome
abbrev pub by_outcome : Slot → Request → (Answer → Process) → Outcome → Taking
by_outcome x request go (Answers r) =
    Takes (record x { process = go r }) (record { proc = x.number; place = request.place; act = request.action; answer = r })
by_outcome x request go (heap.Faults kind) =
    Takes x (record { proc = x.number; place = request.place; act = act.Fault kind; answer = Done })
by_outcome x request go Impossible = Waits

-- the entry of an action, if it is ready
abbrev pub by_request : RunConfig → List Entry → Slot → Request → (Answer → Process) → Bool → Taking
by_request s es x request go true = by_outcome x request go (heap_answer s.program (history_of es) x.number request.action)
by_request s es x request go false = Waits

-- the entry of a step
abbrev pub by_step : RunConfig → List Entry → Slot → Step → Taking
by_step s es x (To p) = Unknown
by_step s es x (At request go) = by_request s es x request go (is_ready s es x.number request.action)
by_step s es x (Ends at) = Takes (record x { ended = true }) (record { proc = x.number; place = at; act = act.End; answer = Done })
by_step s es x (Faults kind at) = Takes x (record { proc = x.number; place = at; act = act.Fault kind; answer = Done })

-- what a process does next
abbrev pub next_taking : RunConfig → List Entry → Slot → Taking
next_taking s es x = if x.ended then Waits else by_step s es x (settle most_silent x.process)

-- ---- all processes

-- what the lowest-numbered process that can take an entry does, and the processes after it
pub data SoloTurn : Type 0 where
  None : SoloTurn
  Taken : (slots : List Slot) (e : Entry) → SoloTurn
  Untold : SoloTurn

-- puts a process before those of the result
abbrev pub put_before : Slot → SoloTurn → SoloTurn
put_before x None = None
put_before x (Taken xs e) = Taken (x ∷ xs) e
put_before x Untold = Untold

-- what a process does, or else what the later processes do
abbrev pub first_of : Taking → Slot → List Slot → SoloTurn → SoloTurn
first_of Waits x xs more = put_before x more
first_of (Takes y e) x xs more = Taken (y ∷ xs) e
first_of Unknown x xs more = Untold

-- what the first process that can take an entry does
abbrev pub solo_turn : RunConfig → List Entry → List Slot → SoloTurn
solo_turn s es [] = None
solo_turn s es (x ∷ xs) = first_of (next_taking s es x) x xs (solo_turn s es xs)

-- continues after an entry, unless it is a fault
abbrev pub run_after : (List Slot → List Entry → List Entry) → List Entry → SoloTurn → List Entry
run_after go es None = es
run_after go es (Taken xs e) = if is_fault e.act then es ++ e ∷ [] else go xs (es ++ e ∷ [])
run_after go es Untold = es

-- the entries of a run after at most n more, from given processes and entries on
abbrev pub run_from : RunConfig → ℕ → List Slot → List Entry → List Entry
run_from s zero xs es = es
run_from s (suc n) xs es = run_after (run_from s n) es (solo_turn s es xs)

-- the first entries of the canonical run, at most the given number
abbrev pub solo : RunConfig → ℕ → List Entry
solo s turns = run_from s turns (slots s 0 s.procs) []
