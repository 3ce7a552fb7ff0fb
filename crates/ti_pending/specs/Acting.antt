-- What the next action of a process leaves.
use Rattle.std.specs.Prelude.{◌≡◌, ℕ, ◌+◌, ◌-◌, ◌<◌, true, false, if◌then◌else◌, List, [], ◌∷◌, ◌++◌, length, sum_by}
use Rattle.ti_base.specs.declared.place.Place.{Place}
use Rattle.ti_base.specs.declared.action.Action.{Action}
use Rattle.ti_base.specs.declared.action.Action.TheVariants as act
use Rattle.ti_base.specs.declared.entry.Answer.{Answer}
use Rattle.ti_base.specs.declared.entry.Entry.{Entry}
use Rattle.ti_base.specs.declared.entry.Next.{Next}
use Rattle.ti_base.specs.declared.entry.Next.TheVariants as next
use Rattle.ti_lang.specs.Meaning.Processes.{RunConfig}
use Rattle.ti_lang.specs.Meaning.Histories.{is_fault}
use Rattle.ti_lang.specs.Meaning.Runs.{CanTake}
use Rattle.ti_align.specs.Alignment.{OfEveryRun}
use Rattle.ti_align.specs.Answering.{AnswersFit}
use Rattle.ti_code.specs.Programs.{Code}
use Rattle.ti_code.specs.Follows.{Follows}
use Rattle.ti_machine.specs.ProcView.{is_act}
use Rattle.ti_store.specs.declared.act_err.ActErr.{ActErr}
use Rattle.ti_store.specs.declared.act_err.ActErr.TheVariants as err
use Rattle.ti_store.specs.Conditions.{IsWithinRunLimits}
use Rattle.ti_store.specs.Stores.{StoreState, config_of, is_halted}
use Rattle.ti_pending.specs.declared.pending.PendingProc.{PendingProc}
use Rattle.ti_pending.specs.UpToDate.{with_answer, IsUpToDate, IsBlocked}

-- procs and fuel are within their limits, the code follows the program, and in every run answers fit the actions before them
pub record CodePremises (code : Code) (s : RunConfig) : Type 0 where
  pub within : IsWithinRunLimits s.procs s.fuel
  pub follows : Follows code s.program
  pub fit : OfEveryRun AnswersFit s.program

-- ---- the action and its answer

-- the next action of a process with its place; an end and a fault count as actions
abbrev pub action_for : Next → Place × Action
action_for (next.Act at a) = (at, a)
action_for (next.End at) = (at, act.End)
action_for (next.Fault kind at) = (at, act.Fault kind)

-- its place, and the action
abbrev pub next_place : Next → Place
next_place n = (action_for n).0

abbrev pub next_action : Next → Action
next_action n = (action_for n).1

-- the process after the answer to its next action; an end has no answer
pub record ReceivesAnswer (old : PendingProc) (n : Next) (answer : Answer) (new : PendingProc) : Type 0 where
  pub ends : is_act n ≡ false → new ≡ record old { ended = true }
  pub hears : is_act n ≡ true → new ≡ record old { process = with_answer old.process answer }

-- ---- entries

-- process i took an entry
pub record TakesEntry (s : RunConfig) (es : List Entry) (i : ℕ) (all : List Entry) : Type 0 where
  pub entry : Entry
  pub can : CanTake s es i entry
  pub after : all ≡ es ++ entry ∷ []

-- how many entries a process may still take: its answers, and its end
abbrev pub steps_left : RunConfig → PendingProc → ℕ
steps_left s pending = (s.fuel - length pending.process.answers) + (if pending.ended then 0 else 1)

abbrev pub all_steps_left : RunConfig → List PendingProc → ℕ
all_steps_left s processes = sum_by (steps_left s) processes

-- process i took an entry, and is up to date again
pub record Progresses (code : Code) (s : RunConfig) (es : List Entry) (i : ℕ) (old : PendingProc) (all : List Entry) (new : PendingProc) : Type 0 where
  pub takes : TakesEntry s es i all
  pub no_fault : is_fault takes.entry.act ≡ false
  pub seated : IsUpToDate code s all i new
  pub lighter : steps_left s new < steps_left s old

-- Process i got no answer: it took the entry of a fault, and is up to date with it; or it has to wait, the run has stopped, or memory ran out,
-- and the entries are the same.
abbrev pub RefusalLeaves : Code → StoreState → ℕ → PendingProc → List Entry → ActErr → Type 0
RefusalLeaves code st i pending all (err.Faulted kind) =
    (t : TakesEntry (config_of st) st.entries i all) × (is_fault t.entry.act ≡ true) × IsUpToDate code (config_of st) all i pending
RefusalLeaves code st i pending all err.NotYet = (all ≡ st.entries) × IsBlocked (config_of st) st.entries i
RefusalLeaves code st i pending all err.Halted = (all ≡ st.entries) × (is_halted st ≡ true)
RefusalLeaves code st i pending all err.Memory = all ≡ st.entries
