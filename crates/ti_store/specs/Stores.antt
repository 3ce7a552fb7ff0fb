-- What contracts see of a store, and how it answers an action.
use Rattle.std.specs.Prelude.{◌≡◌, ℕ, Bool, false, true, ◌||◌, List, ◌∷◌, ◌++◌, [], map, Some}
use Rattle.ti_base.specs.declared.place.Place.{Place}
use Rattle.ti_base.specs.declared.fault.FaultKind.{FaultKind}
use Rattle.ti_base.specs.declared.action.Action.{Action}
use Rattle.ti_base.specs.declared.action.Action.TheVariants as act
use Rattle.ti_base.specs.declared.entry.Answer.{Answer}
use Rattle.ti_base.specs.declared.entry.Answer.TheVariants.{Done}
use Rattle.ti_base.specs.declared.entry.Entry.{Entry}
use Rattle.ti_base.specs.declared.entry.Next.{Next}
use Rattle.ti_base.specs.declared.entry.Next.TheVariants as next
use Rattle.ti_lang.specs.declared.program.classes.ProgramData.{ProgramData}
use Rattle.ti_lang.specs.Program.Views.{program_of}
use Rattle.ti_lang.specs.Meaning.Processes.{RunConfig}
use Rattle.ti_lang.specs.Meaning.Histories.{is_fault, has_fault, entries_of}
use Rattle.ti_lang.specs.Meaning.Runs.{IsReady, entry_of}
use Rattle.ti_store.specs.declared.act_err.ActErr.{ActErr}
use Rattle.ti_store.specs.declared.act_err.ActErr.TheVariants.{Faulted, NotYet, Halted, Memory}
use Rattle.ti_store.specs.Conditions.{HasNextAfter}

-- the program of a store, its number of processes, their fuel, the entries so far, and whether it was halted because memory ran out
pub record StoreState : Type 0 where
  pub program : ProgramData
  pub procs : ℕ
  pub fuel : ℕ
  pub entries : List Entry
  pub halted : Bool

-- what the processes of a store share
abbrev pub config_of : StoreState → RunConfig
config_of s = record { program = program_of s.program; procs = s.procs; fuel = s.fuel }

-- the entries as a log: each with the number of its process
abbrev pub log_of : List Entry → List (ℕ × Entry)
log_of es = map (λ (e : Entry). (e.proc, e)) es

-- no further action is performed: the history ends with a fault, or the store was halted because memory ran out
abbrev pub is_halted : StoreState → Bool
is_halted s = s.halted || has_fault s.entries

-- what a process does, as a `Next`: its end and a fault of its own are no actions
abbrev pub next_of : Place → Action → Next
next_of at act.End = next.End at
next_of at (act.Fault kind) = next.Fault kind at
next_of at a = next.Act at a

-- process p does this next, after its own entries
abbrev pub IsNextOf : StoreState → ℕ → Place → Action → Type 0
IsNextOf s p at a = HasNextAfter (config_of s) p (entries_of p s.entries) (next_of at a)

-- process p needn't wait
abbrev pub NeedNotWait : StoreState → ℕ → Place → Action → Type 0
NeedNotWait s p at a = IsReady (config_of s) s.entries p (next_of at a)

-- what process p does is performed, and results in this entry
pub record Produces (s : StoreState) (p : ℕ) (at : Place) (a : Action) (e : Entry) : Type 0 where
  pub goes_on : is_halted s ≡ false
  pub ready : NeedNotWait s p at a
  pub entry : entry_of (config_of s) s.entries p (next_of at a) ≡ Some e

-- the store with one more entry
abbrev pub with_entry : StoreState → Entry → StoreState
with_entry s e = record s { entries = s.entries ++ e ∷ [] }

-- process p did what it does next, and received this answer
pub record IsDone (old : StoreState) (p : ℕ) (at : Place) (a : Action) (answer : Answer) (new : StoreState) : Type 0 where
  pub becomes : Produces old p at a (record { proc = p; place = at; act = a; answer = answer })
  pub no_fault : is_fault a ≡ false
  pub after : new ≡ with_entry old (record { proc = p; place = at; act = a; answer = answer })

-- the entry of a fault of process p
abbrev pub fault_entry : ℕ → Place → FaultKind → Entry
fault_entry p at kind = record { proc = p; place = at; act = act.Fault kind; answer = Done }

-- Process p didn't get an answer: what it did faulted; or it has to wait, the store is halted, or memory ran out, and nothing changed.
abbrev pub IsRefused : StoreState → ℕ → Place → Action → ActErr → StoreState → Type 0
IsRefused old p at a (Faulted kind) new = Produces old p at a (fault_entry p at kind) × (new ≡ with_entry old (fault_entry p at kind))
IsRefused old p at a NotYet new = (is_halted old ≡ false) × (NeedNotWait old p at a → ⊥) × (new ≡ old)
IsRefused old p at a Halted new = (is_halted old ≡ true) × (new ≡ old)
IsRefused old p at a Memory new = (is_halted old ≡ false) × NeedNotWait old p at a × (new ≡ old)
