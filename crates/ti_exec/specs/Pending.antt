-- A process at the pending work of its innermost statement.
use Rattle.std.specs.Prelude.{◌≡◌, Bool, if◌then◌else◌, List, [], ◌∷◌, ◌++◌, Option, None, Some, Result, Ok, Err}
use Rattle.ti_lang.specs.Program.Classes.{ProgramView}
use Rattle.ti_lang.specs.Meaning.Held.{Held, truth_of}
use Rattle.ti_lang.specs.Meaning.Comp.{CompResult, Gives, Asks, Fails}
use Rattle.ti_lang.specs.Meaning.Processes.{Process, Variable, ContItem, Do, Behind}
use Rattle.ti_lang.specs.Meaning.Moves.{Move, Turns, Goes}
use Rattle.ti_lang.specs.Meaning.Steps.{Step, step, moves, with_continuation}
use Rattle.ti_eval.specs.declared.interrupt.Interrupt.{Interrupt}
use Rattle.ti_eval.specs.Comes.{Stops}
use Rattle.ti_eval.specs.declared.frame.Resume.{Resume}
use Rattle.ti_eval.specs.declared.frame.Resume.TheVariants as resume
use Rattle.ti_eval.specs.declared.frame.ChildIndex.TheVariants.{Body}
use Rattle.ti_eval.specs.Frames.{slots_of, loop_place_of, loop_of, end_of_for}
use Rattle.ti_eval.specs.Places.{child_of}
use Rattle.ti_exec.specs.declared.process.ControlMode.TheVariants as mode
use Rattle.ti_exec.specs.declared.process.TreeMachine.{TreeMachine}
use Rattle.ti_exec.specs.declared.process.StepOutcome.{StepOutcome}
use Rattle.ti_exec.specs.States.{innermost_stmt, left_in, rest, process_in_mode, process_of, top_of, below_of, IsStep}

-- The process with this pending work of the innermost statement.
abbrev pub process_at : ProgramView → TreeMachine → Resume → Process
process_at c w t = process_in_mode c w (mode.Walks t) w.answers.items

-- The result of its step, as the code represents it.
abbrev pub IsStepOutcomeAt : ProgramView → TreeMachine → Resume → StepOutcome → TreeMachine → Type 0
IsStepOutcomeAt c old t r new = IsStep c (process_at c old t) (step (process_at c old t)) r new

-- The process after its current work, with these variables in scope and this pending work in its innermost call.
abbrev pub done_with : ProgramView → TreeMachine → List Variable → List ContItem → Process
done_with c w variables left = with_continuation (process_of c w) (top_of c w []) (below_of c w) variables left

-- The outcome of a `while` or a `for` whose condition has this value.
abbrev pub turn_if : ProgramView → TreeMachine → Bool → Move
turn_if c w again =
    if again then Turns (loop_place_of (innermost_stmt c w.top)) (slots_of w.top.variables.slots.items)
    (Do (child_of (innermost_stmt c w.top) Body) ∷ Behind (loop_of (innermost_stmt c w.top)) ∷ [])
    else Goes (slots_of w.top.variables.slots.items) []

-- The step at that outcome.
abbrev pub step_if : ProgramView → TreeMachine → Bool → Step
step_if c w again =
    moves (process_at c w resume.Before) (top_of c w (left_in c w.rank.procs w.top resume.Before)) (below_of c w) (end_of_for (innermost_stmt c w.top)
    ++ rest c w.rank.procs w.top) (turn_if c w again)

-- The truth of the boolean that a computation yields, if it yields one.
abbrev pub truth_in : CompResult Held → Option Bool
truth_in (Gives h more) = Some (truth_of h)
truth_in (Asks q) = None
truth_in (Fails kind at) = None

-- The code's result for that truth.
abbrev pub Decides : Result Bool Interrupt → CompResult Held → Type 0
Decides (Ok b) got = truth_in got ≡ Some b
Decides (Err stop) got = Stops stop got
