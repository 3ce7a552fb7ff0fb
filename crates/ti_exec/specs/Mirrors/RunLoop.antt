-- Mirrors the code: only contracts of private functions and the invariant use these definitions.
use Rattle.std.specs.Prelude.{◌≡◌, ℕ, Bool, true, false, List, [], None, Some}
use Rattle.ti_base.specs.declared.entry.Next.{Next}
use Rattle.ti_lang.specs.Program.Classes.{ProgramView}
use Rattle.ti_lang.specs.Meaning.Processes.{Process, Frame}
use Rattle.ti_lang.specs.Meaning.Steps.{step}
use Rattle.ti_lang.specs.Meaning.NextStep.{Reaches, step_label}
use Rattle.ti_eval.specs.declared.rank.Rank.{Rank}
use Rattle.ti_exec.specs.declared.process.TreeMachine.{TreeMachine}
use Rattle.ti_exec.specs.declared.run_loop.TreeProcState.{TreeProcState}
use Rattle.ti_exec.specs.declared.run_loop.TreeProcState.TheVariants as state
use Rattle.ti_exec.specs.States.{process_of, after_answer, RequestsNext}
use Rattle.ti_exec.specs.Standing.{is_act}

-- A process before its first step, with these frames.
abbrev pub fresh_process : ProgramView → Rank → ℕ → List Frame → Process
fresh_process c rank fuel frames = record {
  setting = record { program = c; procs = rank.procs; fuel = fuel };
  number = rank.number;
  spent = 0;
  frames = frames;
  wait = None;
  answers = [];
}

-- The process ran out of memory.
abbrev pub poisoned_in : TreeProcState → Bool
poisoned_in state.Poisoned = true
poisoned_in s = false

-- The process waits for the answer to an action.
abbrev pub asks_in : TreeProcState → Bool
asks_in (state.Suspended asking) = true
asks_in s = false

-- The process has this next, as its state says.
abbrev pub Rests : ProgramView → TreeMachine → Next → TreeProcState → Type 0
Rests c w n state.Running = (step_label (step (process_of c w)) ≡ Some n) × (is_act n ≡ false)
Rests c w n (state.Suspended asking) = RequestsNext (step (process_of c w)) n (after_answer c w asking.value.on_answer) × (is_act n ≡ true)
Rests c w n state.Poisoned = ⊥

-- Silent steps lead from the first process to the second, which has this next and is in this state.
pub record RunsToNext (c : ProgramView) (old : TreeMachine) (n : Next) (s : TreeProcState) (new : TreeMachine) : Type 0 where
  pub reaches : Reaches (process_of c old) (process_of c new)
  pub rests : Rests c new n s
