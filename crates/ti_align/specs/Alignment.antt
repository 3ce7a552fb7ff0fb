-- Alignment: in every run, all processes that reach their nth collective reach the same one, with equal single values.
use Rattle.std.specs.Prelude.{◌≡◌, ℕ, ◌≤◌, ◌<◌, true, false, List, ◌∷◌, ◌++◌, Option}
use Rattle.ti_base.specs.declared.place.Place.{Place}
use Rattle.ti_base.specs.declared.action.Action.TheVariants as act
use Rattle.ti_base.specs.declared.action.CollKind.{CollKind}
use Rattle.ti_base.specs.declared.action.Deposit.{Deposit}
use Rattle.ti_base.specs.declared.entry.Answer.{Answer}
use Rattle.ti_base.specs.declared.entry.Entry.{Entry}
use Rattle.ti_base.specs.declared.entry.Next.TheVariants as next
use Rattle.ti_lang.specs.Program.Classes.{ProgramView}
use Rattle.ti_lang.specs.Meaning.Processes.{RunConfig, Process}
use Rattle.ti_lang.specs.Meaning.NextStep.{RunsTo}
use Rattle.ti_lang.specs.Meaning.Histories.{arrivals, has_end, has_fault}
use Rattle.ti_lang.specs.Meaning.Runs.{ProcAfter, CanTake, IsRun, AllEnded}
use Rattle.ti_align.specs.SinglePart.{SingleFrame, single_part}

-- the maximal number of processes of a run
abbrev pub most_procs : ℕ
most_procs = 32

-- the maximal fuel of each process, in ticks
abbrev pub most_fuel : ℕ
most_fuel = 4000000

-- an arrival at a collective: where it is, which collective, and the single part of the process then
pub record SingleArrival : Type 0 where
  pub place : Place
  pub kind : CollKind
  pub arg : Option ℕ
  pub single : List SingleFrame

-- in these entries, the arrival with index k (counted from 0) of process i is this one
pub record ArrivesAt (s : RunConfig) (es : List Entry) (i k : ℕ) (arrival : SingleArrival) : Type 0 where
  pub before : List Entry
  pub rest : List Entry
  pub deposit : Deposit
  pub answer : Answer
  pub split : es ≡ before ++ record { proc = i; place = arrival.place; act = act.Arrive arrival.kind arrival.arg deposit; answer = answer }
      ∷ rest
  pub count : arrivals i before ≡ k
  -- the process that arrives, before it settles on its arrival
  pub process : Process
  pub world : ProcAfter s before i process
  pub settled : Process
  pub settles : RunsTo process settled (next.Act arrival.place (act.Arrive arrival.kind arrival.arg deposit))
  pub single : arrival.single ≡ single_part settled

-- the nth arrivals of any two processes are equal, for every n
abbrev pub ArrivalsAgree : RunConfig → List Entry → Type 0
ArrivalsAgree s es = (i j k : ℕ) (a b : SingleArrival) → ArrivesAt s es i k a → ArrivesAt s es j k b → a ≡ b

-- no process arrives more often than one that has ended
abbrev pub NoneAfterEnd : RunConfig → List Entry → Type 0
NoneAfterEnd s es = (i j : ℕ) → i < s.procs → j < s.procs → has_end i es ≡ true → arrivals j es ≤ arrivals i es

-- if there is no fault and no process can append an entry, all processes have ended
abbrev pub NoneStuck : RunConfig → List Entry → Type 0
NoneStuck s es = has_fault es ≡ false → ((i : ℕ) (e : Entry) → CanTake s es i e → ⊥) → AllEnded s es

-- one run is aligned
pub record IsAlignedRun (s : RunConfig) (es : List Entry) : Type 0 where
  pub arrivals_agree : ArrivalsAgree s es
  pub none_after_end : NoneAfterEnd s es
  pub none_stuck : NoneStuck s es

-- the fact holds of every run of a program, for every allowed number of processes and every allowed fuel
abbrev pub OfEveryRun : (RunConfig → List Entry → Type 0) → ProgramView → Type 0
OfEveryRun fact program =
    (procs fuel : ℕ) (es : List Entry) → 1 ≤ procs → procs ≤ most_procs → 1 ≤ fuel → fuel ≤ most_fuel →
    IsRun (record { program = program; procs = procs; fuel = fuel }) es → fact (record { program = program; procs = procs; fuel = fuel }) es

-- a program is aligned: each of its runs is
abbrev pub IsAligned : ProgramView → Type 0
IsAligned program = OfEveryRun IsAlignedRun program
