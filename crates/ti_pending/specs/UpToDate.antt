-- The state of each process after the entries of a run so far.
use Rattle.std.specs.Prelude.{◌≡◌, ℕ, ◌<◌, Bool, false, List, [], ◌∷◌, ◌++◌, length, slice_index_or}
use Rattle.ti_base.specs.declared.place.Place.{Place}
use Rattle.ti_base.specs.declared.action.Action.TheVariants as act
use Rattle.ti_base.specs.declared.entry.Answer.{Answer}
use Rattle.ti_base.specs.declared.entry.Entry.{Entry}
use Rattle.ti_base.specs.declared.entry.Next.{Next}
use Rattle.ti_base.specs.declared.entry.Next.TheVariants as next
use Rattle.ti_lang.specs.Meaning.Processes.{RunConfig, Process}
use Rattle.ti_lang.specs.Meaning.NextStep.{IsNext}
use Rattle.ti_lang.specs.Meaning.Histories.{arrivals, departures, has_end}
use Rattle.ti_lang.specs.Meaning.Runs.{ProcAfter}
use Rattle.ti_code.specs.Programs.{Code}
use Rattle.ti_machine.specs.ProcView.{ProcView, HasNext}
use Rattle.ti_pending.specs.Views.{proc_view_after}
use Rattle.ti_pending.specs.declared.pending.PendingProc.{PendingProc}

-- the process was asked for its next action, or not
abbrev pub with_awaits : Bool → PendingProc → PendingProc
with_awaits asks pending = record pending { process = record pending.process { asks = asks } }

-- with one answer more
abbrev pub with_answer : ProcView → Answer → ProcView
with_answer t answer = record t { answers = t.answers ++ answer ∷ []; asks = false }

-- process i is up to date with these entries: it has their answers, and its code has next what the program has
pub record IsUpToDate (code : Code) (s : RunConfig) (es : List Entry) (i : ℕ) (pending : PendingProc) : Type 0 where
  pub answers : record pending.process { asks = false } ≡ proc_view_after code s es i
  pub there : Process
  pub world : ProcAfter s es i there
  pub next : Next
  pub has_next : HasNext pending.process next
  pub is_next : IsNext there next
  pub ended : has_end i es ≡ pending.ended

-- all processes are up to date with the entries
abbrev pub AllUpToDate : Code → RunConfig → List Entry → List PendingProc → Type 0
AllUpToDate code s es processes = (d : PendingProc) (i : ℕ) → i < length processes → IsUpToDate code s es i (slice_index_or processes i d)

-- process i has a departure next, from a round at which not all have arrived
pub record IsBlocked (s : RunConfig) (es : List Entry) (i : ℕ) : Type 0 where
  pub unended : has_end i es ≡ false
  pub process : Process
  pub world : ProcAfter s es i process
  pub place : Place
  pub is_next : IsNext process (next.Act place act.Depart)
  pub early : ((j : ℕ) → j < s.procs → departures i es < arrivals j es) → ⊥
