-- Mirrors the code: only contracts of private functions and the invariant use these definitions.
use Rattle.std.specs.Prelude.{◌<◌, vec_len, vec_capacity}
use Rattle.ti_base.specs.declared.entry.Next.{Next}
use Rattle.ti_lang.specs.Program.Classes.{ProgramView}
use Rattle.ti_lang.specs.Program.Views.{program_of}
use Rattle.ti_lang.specs.Meaning.Processes.{Process}
use Rattle.ti_lang.specs.Meaning.Steps.{step}
use Rattle.ti_lang.specs.Meaning.NextStep.{Reaches}
use Rattle.ti_exec.specs.declared.process.TreeMachine.{TreeMachine}
use Rattle.ti_exec.specs.declared.process.OnAnswer.{OnAnswer}
use Rattle.ti_exec.specs.declared.run_loop.TreeProcState.{TreeProcState}
use Rattle.ti_exec.specs.declared.run_loop.TreeProcState.TheVariants as state
use Rattle.ti_exec.specs.declared.tree_proc.TreeProc.TheInside.{Inside}
use Rattle.ti_exec.specs.States.{process_of, after_answer, RequestsNext}
use Rattle.ti_exec.specs.Standing.{TreeProcView, IsProcess}
use Rattle.ti_exec.specs.Mirrors.RunLoop.{asks_in}

-- What contracts see of a process.
abbrev pub view_in : Inside → TreeProcView
view_in t = record t.history.standing { asks = asks_in t.state }

-- Silent steps lead from the process after the answers so far to that of the code.
pub record CorrespondsTo (s : TreeProcView) (w : TreeMachine) : Type 0 where
  pub process : Process
  pub is : IsProcess s process
  pub reaches : Reaches process (process_of (program_of s.program) w)

-- The process of the code waits for the answer to an action, each answer has the effect that the code will give it, and there is capacity
-- for the answer.
pub record Awaits (c : ProgramView) (w : TreeMachine) (on_answer : OnAnswer) : Type 0 where
  pub next : Next
  pub stands : RequestsNext (step (process_of c w)) next (after_answer c w on_answer)
  pub room : vec_len w.answers < vec_capacity w.answers

-- The internal state of the process agrees with what contracts see.
abbrev pub AgreesWithTree : TreeProcView → TreeMachine → TreeProcState → Type 0
AgreesWithTree s w state.Running = CorrespondsTo s w
AgreesWithTree s w (state.Suspended asking) = CorrespondsTo s w × Awaits (program_of s.program) w asking.value.on_answer
AgreesWithTree s w state.Poisoned = Unit {0}

abbrev pub IsSound : Inside → Type 0
IsSound t = AgreesWithTree (view_in t) t.machine t.state
