-- A step of the program slice.
use Rattle.std.specs.Prelude.{◌≡◌, true, List, ◌∷◌}
use Rattle.ti_lang.specs.Program.Classes.{ProgramView}
use Rattle.ti_lang.specs.Meaning.Processes.{ContItem}
use Rattle.ti_align.specs.Slice.{work_acts, slice_step}
use Rattle.ti_eval.specs.declared.frame.Resume.{Resume}
use Rattle.ti_moves.specs.Outcomes.{method_at}
use Rattle.ti_exec.specs.declared.process.ControlMode.{ControlMode}
use Rattle.ti_exec.specs.declared.process.ControlMode.TheVariants as mode
use Rattle.ti_exec.specs.declared.process.StepOutcome.{StepOutcome}
use Rattle.ti_exec.specs.declared.process.TreeMachine.{TreeMachine}
use Rattle.ti_exec.specs.States.{process_of, left_in, IsStep}

-- The result of a step of the slice, as the code represents it.
abbrev pub IsSliceTurn : ProgramView → TreeMachine → StepOutcome → TreeMachine → Type 0
IsSliceTurn c old t new = IsStep c (process_of c old) (slice_step (process_of c old)) t new

-- The first piece of the pending work has effects, if there is one.
abbrev pub Acts : ProgramView → TreeMachine → Resume → Type 0
Acts c w t = (x : ContItem) (ws : List ContItem) → left_in c w.rank.procs w.top t ≡ x ∷ ws → work_acts c (method_at c w.top.method) ws x ≡ true

-- The process executes pending work, whose first piece has effects.
abbrev pub ActsIn : ProgramView → TreeMachine → ControlMode → Type 0
ActsIn c w (mode.Walks t) = Acts c w t
ActsIn c w m = ⊥
