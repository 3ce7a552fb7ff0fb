-- Runs: the interleavings of the atomic steps of a program's processes, each recorded as an entry (an event).
use Rattle.std.specs.Prelude.{◌≡◌, ◌⊎◌, ℕ, ◌<◌, true, false, List, [], ◌∷◌, ◌++◌, Option, None, Some}
use Rattle.ti_base.specs.declared.place.Place.{Place}
use Rattle.ti_base.specs.declared.action.Action.{Action}
use Rattle.ti_base.specs.declared.action.Action.TheVariants as act
use Rattle.ti_base.specs.declared.entry.Answer.TheVariants.{Done}
use Rattle.ti_base.specs.declared.entry.Entry.{Entry}
use Rattle.ti_base.specs.declared.entry.Next.{Next}
use Rattle.ti_base.specs.declared.entry.Next.TheVariants as next
use Rattle.ti_lang.specs.Meaning.Processes.{RunConfig, Process, begin}
use Rattle.ti_lang.specs.Meaning.NextStep.{IsNext, After}
use Rattle.ti_lang.specs.Meaning.Histories.{history_of, answers_of, arrivals, departures, has_end, has_fault}
use Rattle.ti_lang.specs.Meaning.HeapAnswers.{Outcome, Answers, Faults, Impossible, heap_answer}

-- p is the configuration of process i after these entries: it depends on nothing but the answers to its own actions
abbrev pub ProcAfter : RunConfig → List Entry → ℕ → Process → Type 0
ProcAfter s es i p = After (begin s i) (answers_of i es) p

-- whether what process i has next is enabled: a departure from a collective waits until all processes have arrived at that
-- round; nothing else waits
abbrev pub IsReady : RunConfig → List Entry → ℕ → Next → Type 0
IsReady s es i (next.Act at act.Depart) = (j : ℕ) → j < s.procs → departures i es < arrivals j es
IsReady s es i n = Unit {0}

-- the entry that records an action with its outcome: a fault is recorded in place of the action; None if it is impossible
abbrev pub entry_with : ℕ → Place → Action → Outcome → Option Entry
entry_with i at a (Answers r) = Some (record { proc = i; place = at; act = a; answer = r })
entry_with i at a (Faults kind) = Some (record { proc = i; place = at; act = act.Fault kind; answer = Done })
entry_with i at a Impossible = None

-- the entry that process i appends to these entries by what it has next; None if the heap has no answer to it
abbrev pub entry_of : RunConfig → List Entry → ℕ → Next → Option Entry
entry_of s es i (next.Act at a) = entry_with i at a (heap_answer s.program (history_of es) i a)
entry_of s es i (next.End at) = Some (record { proc = i; place = at; act = act.End; answer = Done })
entry_of s es i (next.Fault kind at) = Some (record { proc = i; place = at; act = act.Fault kind; answer = Done })

-- process i can append the entry e to these entries: no process has faulted, i hasn't ended, and e records what i has next in its
-- configuration after the entries, which is enabled
pub record CanTake (s : RunConfig) (es : List Entry) (i : ℕ) (e : Entry) : Type 0 where
  pub within : i < s.procs
  -- no process has faulted
  pub goes_on : has_fault es ≡ false
  pub unended : has_end i es ≡ false
  -- the configuration of process i, and the label of its next visible step
  pub process : Process
  pub world : ProcAfter s es i process
  pub next : Next
  pub is_next : IsNext process next
  pub ready : IsReady s es i next
  pub entry : entry_of s es i next ≡ Some e

-- a run: each entry is one that a process can append to the entries before it
pub data IsRun (s : RunConfig) : List Entry → Type 0 where
  none : IsRun s []
  more : {es all : List Entry} {i : ℕ} {e : Entry} → IsRun s es → CanTake s es i e → all ≡ es ++ e ∷ [] → IsRun s all

-- every process has ended
abbrev pub AllEnded : RunConfig → List Entry → Type 0
AllEnded s es = (i : ℕ) → i < s.procs → has_end i es ≡ true

-- a run is complete if it has a fault, or if all processes have ended
abbrev pub IsComplete : RunConfig → List Entry → Type 0
IsComplete s es = (has_fault es ≡ true) ⊎ AllEnded s es

-- the canonical run: each entry is that of the lowest-numbered process that can append one
pub data IsSolo (s : RunConfig) : List Entry → Type 0 where
  none : IsSolo s []
  more : {es all : List Entry} {i : ℕ} {e : Entry} → IsSolo s es → CanTake s es i e →
      ((j : ℕ) (d : Entry) → j < i → CanTake s es j d → ⊥) → all ≡ es ++ e ∷ [] → IsSolo s all
