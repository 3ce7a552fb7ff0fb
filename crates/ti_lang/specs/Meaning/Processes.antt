-- The configuration of a process: its frames with their continuations, and the collective at which it waits.
use Rattle.std.specs.Prelude.{ℕ, List, [], ◌∷◌, Option, None, slice_get}
use Rattle.std.specs.Option.{option_map_or}
use Rattle.ti_base.specs.declared.place.Place.{Place}
use Rattle.ti_base.specs.declared.point.Point.{Point}
use Rattle.ti_base.specs.declared.value.Id.{Id}
use Rattle.ti_base.specs.declared.action.CollKind.{CollKind}
use Rattle.ti_base.specs.declared.entry.Answer.{Answer}
use Rattle.ti_syntax.specs.declared.tree.exprs.BinaryOperator.{BinaryOperator}
use Rattle.ti_lang.specs.Program.Types.{VariableUse}
use Rattle.ti_lang.specs.Program.Expressions.{NumberedExp}
use Rattle.ti_lang.specs.Program.Statements.{NumberedStm, MaybeNumbered, NumberedStms, Nil, Cons, numbered_stms}
use Rattle.ti_lang.specs.Program.Classes.{NumberedMethod, ProgramView}
use Rattle.ti_lang.specs.Meaning.Held.{Held}
use Rattle.ti_lang.specs.Meaning.Comp.{Wanted, Reference}

-- what all processes of a run share: the program, the number of processes, and the fuel of each, in ticks
pub record RunConfig : Type 0 where
  pub program : ProgramView
  pub procs : ℕ
  pub fuel : ℕ

-- ---- frames

-- a variable in scope: its number and declaration, and its value
pub record Variable : Type 0 where
  pub named : VariableUse
  pub held : Held

-- where a value goes: nowhere, into a new variable, into the target of an assignment, or into that of a compound assignment
pub data Receiver : Type 0 where
  Nowhere : Receiver
  Declared : (at : Place) (variable : VariableUse) → Receiver
  Assigned : (at : Place) (target : NumberedExp) → Receiver
  Updated : (at : Place) (op : BinaryOperator) (target : NumberedExp) → Receiver

-- A loop in progress: a `while` or a `for` with its condition and its update, each optional, or a `foreach` with the points that
-- are left. During an iteration, the first of them is the value of the loop's variable.
pub data Loop : Type 0 where
  While : (at : Place) (condition : Option NumberedExp) (update : MaybeNumbered) (body : NumberedStm) → Loop
  Foreach : (at : Place) (variable : ℕ) (domain : NumberedExp) (points : List Point) (body : NumberedStm) → Loop

-- an item of a continuation: work still to be done
pub data ContItem : Type 0 where
  -- executes a statement
  Do : (s : NumberedStm) → ContItem
  -- the end of a block or a `for`: the variables that it declared go out of scope
  End : (s : NumberedStm) → ContItem
  -- a loop before its next iteration
  Before : (loop : Loop) → ContItem
  -- the end of an iteration of a loop; while the iteration is in progress, this is the mark that `continue` and `break` refer to
  Behind : (loop : Loop) → ContItem
  -- stores the value of a call or a collective in its receiver
  Receive : (receiver : Receiver) (held : Held) → ContItem
  -- a copy between grids, with the points that are left
  CopyAll : (at : Place) (to from : Reference) (points : List Point) → ContItem
  -- an exchange after its departure, with the processes whose values are still to be stored in the grid
  TakeAll : (at : Place) (grid : Reference) (procs : List ℕ) → ContItem

-- a frame, which is a call in progress: its method, the object that `this` is, the variables in scope, the newest first, its
-- continuation, and where the caller stores its result
pub record Frame : Type 0 where
  pub method : NumberedMethod
  pub this : Option Id
  pub variables : List Variable
  -- the continuation: the work that is left, in order
  pub left : List ContItem
  pub receiver : Receiver

-- ---- processes

-- the wait of a process between its arrival at a collective and its departure: the position, the kind of collective and its argument,
-- what the departure requests, and the receiver of its value
pub record Wait : Type 0 where
  pub place : Place
  pub kind : CollKind
  pub arg : Option ℕ
  pub wanted : Wanted
  pub receiver : Receiver

-- the configuration of one process of a run
pub record Process : Type 0 where
  pub setting : RunConfig
  -- its number, from 0
  pub number : ℕ
  -- the number of ticks that it has spent
  pub spent : ℕ
  -- the calls in progress, the innermost first; if there are none, `main` has returned
  pub frames : List Frame
  -- the collective at which it has arrived and which it hasn't left
  pub wait : Option Wait
  -- the answers that its current item of work has received so far
  pub answers : List Answer

-- a continuation preceded by the statements of a list, in order
abbrev pub all_before : NumberedStms → List ContItem → List ContItem
all_before Nil left = left
all_before (Cons s rest) left = Do s ∷ all_before rest left

-- a new frame, before the first statement of its method
abbrev pub frame_of : NumberedMethod → Option Id → List Variable → Receiver → Frame
frame_of method this variables receiver =
    record { method = method; this = this; variables = variables; left = all_before (numbered_stms method.body) []; receiver = receiver }

-- the frames with which a run begins: a call of `main`
abbrev pub first_frames : ProgramView → List Frame
first_frames program =
    option_map_or (λ (main : NumberedMethod). frame_of main None [] Nowhere ∷ []) (slice_get program.methods program.main) []

-- the initial configuration of process i
abbrev pub begin : RunConfig → ℕ → Process
begin s i = record {
  setting = s;
  number = i;
  spent = 0;
  frames = first_frames s.program;
  wait = None;
  answers = [];
}
