-- The slice of a process, as states and a machine that goes through them.
use Rattle.std.specs.Prelude.{Bool, true, false, ℕ, ◌+◌, nat_lt, length, if◌then◌else◌, List, [], ◌∷◌, ◌++◌, Option, Some, None}
use Rattle.ti_base.specs.declared.place.Place.{Place}
use Rattle.ti_base.specs.declared.fault.FaultKind.{FaultKind}
use Rattle.ti_base.specs.declared.fault.FaultKind.TheVariants.{Depth}
use Rattle.ti_base.specs.declared.entry.Answer.{Answer}
use Rattle.ti_lang.specs.Program.Classes.{NumberedMethod, ProgramView}
use Rattle.ti_lang.specs.Program.Scope.{ScopeVariable, parameters, this_of}
use Rattle.ti_lang.specs.Meaning.Held.{Held}
use Rattle.ti_lang.specs.Meaning.Comp.{CompResult, Gives, Asks, Fails}
use Rattle.ti_lang.specs.Meaning.Processes.{RunConfig, Variable, Receiver, Loop, While, Foreach, ContItem, Behind, Frame, frame_of, Wait, Process}
use Rattle.ti_lang.specs.Meaning.Turns.{turns_at, dims_at}
use Rattle.ti_lang.specs.Meaning.Scoping.{Env}
use Rattle.ti_lang.specs.Meaning.Moves as move
use Rattle.ti_lang.specs.Meaning.Jumps.{from_mark, past_mark, variables_at_mark}
use Rattle.ti_lang.specs.Meaning.Steps.{value_asked, deliver, delete_wait, most_frames}
use Rattle.ti_rules.specs.StmtInContext.{StmtContext, variables_inside}
use Rattle.ti_align.specs.SinglePart.{singles}
pub use Rattle.ti_align.specs.Slice.{is_single_named, is_single_receiver, loop_effects, jump_at, work_acts, single_bound, single_calling, empty_arrival, single_broadcast, single_value, single_initial, exchange_wait, single_member, single_alone, single_return, single_statement, single_performed}

-- ---- what stands around work

-- the variables in scope in the body of a loop
abbrev pub variables_in : ProgramView → NumberedMethod → Loop → List ScopeVariable → List ScopeVariable
variables_in p m (While at c update body) variables = variables
variables_in p m (Foreach at variable domain points body) variables = variables_inside p (record { this_class = this_of m; variables = variables }) variable domain

-- the parameters, and the variables of the foreach loops whose marks are in the work that is left
abbrev pub variables_at : ProgramView → NumberedMethod → List ContItem → List ScopeVariable
variables_at p m [] = parameters m.params
variables_at p m (Behind loop ∷ left) = variables_in p m loop (variables_at p m left)
variables_at p m (w ∷ left) = variables_at p m left

-- what stands around the statements before this work
abbrev pub around_at : ProgramView → NumberedMethod → List ContItem → StmtContext
around_at p m left = record { method = m; variables = variables_at p m left; jump_has = jump_at p m left }

-- ---- work with effects

-- the pieces of work with effects, of some before work that is kept whole
abbrev pub kept_before : ProgramView → NumberedMethod → List ContItem → List ContItem → List ContItem
kept_before p m [] left = left
kept_before p m (w ∷ ws) left = if work_acts p m (ws ++ left) w then w ∷ kept_before p m ws left else kept_before p m ws left

-- the pieces of work with effects
abbrev pub kept : ProgramView → NumberedMethod → List ContItem → List ContItem
kept p m [] = []
kept p m (w ∷ ws) = if work_acts p m ws w then w ∷ kept p m ws else kept p m ws

-- ---- states

-- a frame with its single variables and its work with effects
abbrev pub frame_part : ProgramView → Frame → Frame
frame_part p f = record f { this = None; variables = singles f.variables; left = kept p f.method f.left }

-- the frames of single methods
abbrev pub frame_parts : ProgramView → List Frame → List Frame
frame_parts p [] = []
frame_parts p (f ∷ fs) = if f.method.is_single then frame_part p f ∷ frame_parts p fs else frame_parts p fs

-- a state of the slice
pub record State : Type 0 where
  pub frames : List Frame
  pub wait : Option Wait

-- where a process stands in the slice
abbrev pub slice : Process → State
slice p = record { frames = frame_parts p.setting.program p.frames; wait = p.wait }

-- where the slice evaluates: in process 0, without `this`
abbrev pub env_in : RunConfig → Frame → List ContItem → Env
env_in n f left = record {
  number = 0;
  procs = n.procs;
  program = n.program;
  method = f.method;
  this = None;
  variables = f.variables;
  turns = turns_at left;
  dims = dims_at n.program (this_of f.method) left;
}

-- ---- the machine

-- what a state goes on to: another one by itself, which may cost a tick, at an arrival, or at a departure by its answer; nowhere; or a
-- fault
pub data Move : Type 0 where
  Silent : (timed : Bool) (s : State) → Move
  Arrival : (wait : Wait) (s : State) → Move
  Departure : (wait : Wait) (go : Answer → State) → Move
  Over : Move
  Fault : (kind : FaultKind) (place : Place) → Move

-- the ticks that are spent behind a step that may cost one
abbrev pub spent_by : Bool → ℕ → ℕ
spent_by true b = b + 1
spent_by false b = b

-- goes on with what the work comes to, which asks for nothing
abbrev pub certain : CompResult move.Move → (move.Move → Move) → Move
certain (Gives m rest) go = go m
certain (Asks request) go = Over
certain (Fails kind at) go = Fault kind at

-- a frame goes on with these variables and this work
abbrev pub on : Frame → List Frame → List Variable → List ContItem → State
on f fs variables left = record { frames = record f { variables = variables; left = left } ∷ fs; wait = None }

-- a value goes on to its receiver, if that is single
abbrev pub handed_single : Receiver → Option Held → List Frame → List Frame
handed_single receiver held fs = if is_single_receiver receiver then deliver receiver held fs else fs

-- an arrival
abbrev pub arrives_at : List Frame → Wait → Move
arrives_at fs wait = Arrival wait (record { frames = fs; wait = Some wait })

-- the new frame of a single method
abbrev pub callee_part : ProgramView → NumberedMethod → List Variable → Receiver → Frame
callee_part p m parameters receiver = record (frame_of m None parameters receiver) { left = kept p m (frame_of m None parameters receiver).left }

-- what the frame goes on to by a move of its work
abbrev pub moves_to : RunConfig → Frame → List Frame → List ContItem → move.Move → Move
moves_to n f fs left (move.Goes variables works) = Silent false (on f fs variables (kept_before n.program f.method works left))
moves_to n f fs left (move.Turns at variables works) = Silent true (on f fs variables (kept_before n.program f.method works left))
moves_to n f fs left move.Breaks = Silent false (on f fs (variables_at_mark left f.variables) (past_mark left))
moves_to n f fs left move.Continues = Silent false (on f fs (variables_at_mark left f.variables) (from_mark left))
moves_to n f fs left (move.Calls at m this parameters receiver) =
    if nat_lt (length (f ∷ fs)) most_frames
    then Silent true (record { frames = callee_part n.program m parameters receiver ∷ record f { left = left } ∷ fs; wait = None })
    else Fault Depth at
moves_to n f fs left (move.Returns value) = Silent false (record { frames = handed_single f.receiver value fs; wait = None })
moves_to n f fs left (move.Meets wait given behind) = arrives_at (record f { left = left } ∷ fs) wait
moves_to n f fs left (move.Deletes at region) = arrives_at (record f { left = left } ∷ fs) (delete_wait at region)

-- what a frame with this work goes on to
abbrev pub moves_on : RunConfig → Frame → List Frame → List ContItem → Move
moves_on n f fs [] = Silent false (record { frames = fs; wait = None })
moves_on n f fs (w ∷ left) = certain (single_performed (env_in n f left) w []) (moves_to n f fs left)

-- what these frames go on to
abbrev pub moves_in : RunConfig → List Frame → Move
moves_in n [] = Over
moves_in n (f ∷ fs) = moves_on n f fs f.left

-- the same, where they may wait
abbrev pub moves : RunConfig → List Frame → Option Wait → Move
moves n fs None = moves_in n fs
moves n fs (Some w) = Departure w (λ r. record { frames = handed_single w.receiver (value_asked w.wanted r) fs; wait = None })

-- what a state goes on to
abbrev pub move_of : RunConfig → State → Move
move_of n s = moves n s.frames s.wait
