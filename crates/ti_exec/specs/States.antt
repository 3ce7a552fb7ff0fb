-- Which process of the semantics the code's state represents, and what the code's steps say.
use Rattle.std.specs.Prelude.{◌≡◌, ℕ, ◌≤◌, List, [], ◌∷◌, length, reverse, Option, None, Some}
use Rattle.ti_base.specs.declared.entry.Answer.{Answer}
use Rattle.ti_base.specs.declared.entry.Next.{Next}
use Rattle.ti_base.specs.declared.entry.Next.TheVariants as next
use Rattle.ti_lang.specs.Program.Statements.{NumberedStm, NumberedStms, numbered_stms}
use Rattle.ti_lang.specs.Program.Classes.{ProgramView}
use Rattle.ti_lang.specs.Program.Scope.{this_of}
use Rattle.ti_lang.specs.Meaning.Comp.{Request, ToBeDone, told as value_told}
use Rattle.ti_lang.specs.Meaning.Processes as process
use Rattle.ti_lang.specs.Meaning.Processes.{Process, Receiver, Nowhere, ContItem, Receive, Wait}
use Rattle.ti_lang.specs.Meaning.Scoping.{Env}
use Rattle.ti_lang.specs.Meaning.Turns.{turns_at, dims_at}
use Rattle.ti_lang.specs.Meaning.Moves.{Move}
use Rattle.ti_lang.specs.Meaning.Steps.{Step, To, At, Ends, Faults, spends, add_answer, moves, step}
use Rattle.ti_lang.specs.Meaning.NextStep.{step_label}
use Rattle.ti_eval.specs.declared.frame.Resume.{Resume}
use Rattle.ti_eval.specs.declared.frame.Resume.TheVariants as resume
use Rattle.ti_eval.specs.Frames.{MethodContext, slots_of, list_in, pending_of, rest_of}
use Rattle.ti_eval.specs.Places.{inside}
use Rattle.ti_moves.specs.Outcomes.{method_at, wait_of, expected_wait}
use Rattle.ti_moves.specs.Receiving.{receiver_of}
use Rattle.ti_exec.specs.declared.process.CallFrame.{CallFrame}
use Rattle.ti_exec.specs.declared.process.ControlMode.{ControlMode}
use Rattle.ti_exec.specs.declared.process.ControlMode.TheVariants as mode
use Rattle.ti_exec.specs.declared.process.TreeMachine.{TreeMachine}
use Rattle.ti_exec.specs.declared.process.OnAnswer.{OnAnswer}
use Rattle.ti_exec.specs.declared.process.OnAnswer.TheVariants as pend
use Rattle.ti_exec.specs.declared.process.StepOutcome.{StepOutcome}
use Rattle.ti_exec.specs.declared.process.StepOutcome.TheVariants as turn

-- ---- calls

-- The body of the method of a call.
abbrev pub body_of : ProgramView → CallFrame → NumberedStms
body_of c f = numbered_stms (method_at c f.method).body

-- The context of the method of a call.
abbrev pub context_of_call : ProgramView → ℕ → CallFrame → MethodContext
context_of_call c procs f = record { program = c; this = this_of (method_at c f.method); procs = procs }

-- The innermost statement of a call.
abbrev pub innermost_stmt : ProgramView → CallFrame → NumberedStm
innermost_stmt c f = inside (body_of c f) (reverse f.levels.items)

-- The pending work of a call, given that of its innermost statement.
abbrev pub left_in : ProgramView → ℕ → CallFrame → Resume → List ContItem
left_in c procs f t = pending_of (context_of_call c procs f) (body_of c f) (reverse f.levels.items) t

-- The pending work after the innermost statement.
abbrev pub rest : ProgramView → ℕ → CallFrame → List ContItem
rest c procs f = rest_of (context_of_call c procs f) (body_of c f) (reverse f.levels.items)

-- The frame of a call with this pending work, whose caller needs the result at the receiver.
abbrev pub frame_of_call : ProgramView → Receiver → CallFrame → List ContItem → process.Frame
frame_of_call c receiver f left =
    record { method = method_at c f.method; this = f.this; variables = slots_of f.variables.slots.items; left = left; receiver = receiver }

-- The receiver, in the call below, of the result of the call above it.
abbrev pub receiver_below : ProgramView → List CallFrame → Receiver
receiver_below c [] = Nowhere
receiver_below c (f ∷ fs) = receiver_of (innermost_stmt c f)

-- The frames of calls that wait in their innermost statements for the result of the call above, the innermost first.
abbrev pub frames_below : ProgramView → ℕ → List CallFrame → List process.Frame
frames_below c procs [] = []
frames_below c procs (f ∷ fs) = frame_of_call c (receiver_below c fs) f (rest c procs f) ∷ frames_below c procs fs

-- ---- processes

-- The frames below the innermost one.
abbrev pub below_of : ProgramView → TreeMachine → List process.Frame
below_of c w = frames_below c w.rank.procs (reverse w.callers.calls.items)

-- The innermost frame with this pending work.
abbrev pub top_of : ProgramView → TreeMachine → List ContItem → process.Frame
top_of c w left = frame_of_call c (receiver_below c (reverse w.callers.calls.items)) w.top left

-- The environment of the innermost statement.
abbrev pub env_in : ProgramView → TreeMachine → Env
env_in c w = record {
  number = w.rank.number;
  procs = w.rank.procs;
  program = c;
  method = method_at c w.top.method;
  this = w.top.this;
  variables = slots_of w.top.variables.slots.items;
  turns = turns_at (rest c w.rank.procs w.top);
  dims = dims_at c (this_of (method_at c w.top.method)) (rest c w.rank.procs w.top);
}

-- The frames of a process in this mode.
abbrev pub frames_in : ProgramView → TreeMachine → ControlMode → List process.Frame
frames_in c w (mode.Walks t) = top_of c w (left_in c w.rank.procs w.top t) ∷ below_of c w
frames_in c w (mode.Receives h) = top_of c w (Receive (receiver_of (innermost_stmt c w.top)) h ∷ rest c w.rank.procs w.top) ∷ below_of c w
frames_in c w (mode.Waits collective t) = top_of c w (left_in c w.rank.procs w.top t) ∷ below_of c w
frames_in c w (mode.Expects collective) = top_of c w (rest c w.rank.procs w.top) ∷ below_of c w
frames_in c w mode.Ended = []

-- The collective at which a process in this mode waits.
abbrev pub wait_in : ProgramView → TreeMachine → ControlMode → Option Wait
wait_in c w (mode.Waits collective t) = Some (wait_of collective ToBeDone Nowhere)
wait_in c w (mode.Expects collective) = Some (expected_wait (env_in c w) (innermost_stmt c w.top) collective)
wait_in c w m = None

-- The process in this mode, with these answers to its current work.
abbrev pub process_in_mode : ProgramView → TreeMachine → ControlMode → List Answer → Process
process_in_mode c w m answers = record {
  setting = record { program = c; procs = w.rank.procs; fuel = w.fuel };
  number = w.rank.number;
  spent = w.spent;
  frames = frames_in c w m;
  wait = wait_in c w m;
  answers = answers;
}

abbrev pub process_of : ProgramView → TreeMachine → Process
process_of c w = process_in_mode c w w.mode w.answers.items

-- ---- steps

-- The mode after a departure with this answer.
abbrev pub mode_after_answer : ControlMode → Answer → ControlMode
mode_after_answer (mode.Waits collective t) r = mode.Walks t
mode_after_answer (mode.Expects collective) r = mode.Receives (value_told r)
mode_after_answer m r = m

-- The process after the answer to its action, as the code represents it.
abbrev pub after_answer : ProgramView → TreeMachine → OnAnswer → Answer → Process
after_answer c w pend.Append r = spends (add_answer (process_of c w) r)
after_answer c w (pend.Arrive m) r = spends (process_in_mode c w m [])
after_answer c w pend.Depart r = spends (process_in_mode c w (mode_after_answer w.mode r) [])

-- The process has this action next, whose answer has this effect.
pub record RequestsNext (s : Step) (n : Next) (makes : Answer → Process) : Type 0 where
  pub request : Request
  pub go : Answer → Process
  pub is : s ≡ At request go
  pub shows : step_label s ≡ Some n
  pub goes : (r : Answer) → go r ≡ makes r

-- The result of a step, as the code represents it.
abbrev pub IsStep : ProgramView → Process → Step → StepOutcome → TreeMachine → Type 0
IsStep c p s turn.Continue new = s ≡ To (process_of c new)
IsStep c p s (turn.Request q) new = (process_of c new ≡ p) × RequestsNext s (next.Act q.value.place q.value.action) (after_answer c new q.value.on_answer)
IsStep c p s (turn.End at) new = (process_of c new ≡ p) × (s ≡ Ends at)
IsStep c p s (turn.Fault kind at) new = (process_of c new ≡ p) × (s ≡ Faults kind at)

-- The result of the next step of a process.
abbrev pub IsStepOutcome : ProgramView → TreeMachine → StepOutcome → TreeMachine → Type 0
IsStepOutcome c old t new = IsStep c (process_of c old) (step (process_of c old)) t new

-- The result of an outcome of the innermost statement, whatever else was pending in its frame.
abbrev pub IsApplied : ProgramView → TreeMachine → Move → StepOutcome → TreeMachine → Type 0
IsApplied c old move t new = (ws : List ContItem) → IsStep c (process_of c old)
    (moves (process_of c old) (top_of c old ws) (below_of c old) (rest c old.rank.procs old.top) move) t new

-- ---- the work at hand

-- The work at hand is that of the innermost statement: nothing inside it comes first, and it isn't done, unless it is the method's body.
abbrev pub IsAtHand : NumberedStm → ℕ → Resume → Type 0
IsAtHand x levels (resume.From n) = length (list_in x) ≤ n
IsAtHand x levels resume.Inside = levels ≡ 0
IsAtHand x levels t = Unit {0}

abbrev pub AtHandIn : ProgramView → CallFrame → ControlMode → Type 0
AtHandIn c f (mode.Walks t) = IsAtHand (innermost_stmt c f) (length f.levels.items) t
AtHandIn c f m = Unit {0}

-- What the process does next is at hand.
abbrev pub IsNormalized : ProgramView → TreeMachine → Type 0
IsNormalized c w = AtHandIn c w.top w.mode

-- The process executes pending work.
abbrev pub IsWalking : ControlMode → Type 0
IsWalking (mode.Walks t) = Unit {0}
IsWalking m = ⊥

-- A value is on its way to its receiver.
abbrev pub IsReceiving : ControlMode → Type 0
IsReceiving (mode.Receives h) = Unit {0}
IsReceiving m = ⊥

-- The innermost statement has begun, and some of it is pending.
abbrev pub IsBegun : ControlMode → Type 0
IsBegun (mode.Walks resume.Here) = ⊥
IsBegun (mode.Walks resume.Inside) = ⊥
IsBegun (mode.Walks t) = Unit {0}
IsBegun m = ⊥
