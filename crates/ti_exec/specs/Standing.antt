-- What contracts see of a process of a checked program.
use Rattle.std.specs.Prelude.{ℕ, Bool, true, false, List, [], ◌∷◌}
use Rattle.ti_base.specs.declared.entry.Answer.{Answer}
use Rattle.ti_base.specs.declared.entry.Next.{Next}
use Rattle.ti_base.specs.declared.entry.Next.TheVariants as next
use Rattle.ti_lang.specs.declared.program.classes.ProgramData.{ProgramData}
use Rattle.ti_lang.specs.Program.Views.{program_of}
use Rattle.ti_lang.specs.Meaning.Processes.{RunConfig, Process, begin}
use Rattle.ti_lang.specs.Meaning.NextStep.{IsNext, After}

-- The program, the number of processes, the fuel of each, the number of this process, the answers that it has received so far, and whether
-- it waits for the answer to an action.
pub record TreeProcView : Type 0 where
  pub program : ProgramData
  pub procs : ℕ
  pub fuel : ℕ
  pub number : ℕ
  pub told : List Answer
  pub asks : Bool

-- What all processes of the run share.
abbrev pub setting_of : TreeProcView → RunConfig
setting_of s = record { program = program_of s.program; procs = s.procs; fuel = s.fuel }

-- The process of the semantics before its first step.
abbrev pub initial_process_of : TreeProcView → Process
initial_process_of s = begin (setting_of s) s.number

-- The process of the semantics after the answers so far.
abbrev pub IsProcess : TreeProcView → Process → Type 0
IsProcess s p = After (initial_process_of s) s.told p

-- That process exists and has this next.
abbrev pub HasNext : TreeProcView → Next → Type 0
HasNext s n = (p : Process) × IsProcess s p × IsNext p n

-- Whether what is next is an action.
abbrev pub is_act : Next → Bool
is_act (next.Act at action) = true
is_act n = false

-- The process of the second is that of the first after one more answer.
pub record IsAfterAnswer (s : TreeProcView) (a : Answer) (t : TreeProcView) : Type 0 where
  pub before : Process
  pub was : IsProcess s before
  pub behind : Process
  pub is : IsProcess t behind
  pub after : After before (a ∷ []) behind
