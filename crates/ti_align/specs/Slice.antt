-- The program slice: what all processes do alike, executed by itself. It has only the single variables and only the statements with
-- global effects, and evaluates only their single operands.
use Rattle.std.specs.Prelude.{◌≡◌, ℕ, ◌+◌, Bool, true, false, if◌then◌else◌, pos, unwrap_or, List, [], ◌∷◌, ◌++◌, map, filter, length, Option, Some, None}
use Rattle.std.specs.List.{list_any}
use Rattle.ti_base.specs.declared.place.Place.{Place}
use Rattle.ti_base.specs.declared.fault.FaultKind.{FaultKind}
use Rattle.ti_base.specs.declared.fault.FaultKind.TheVariants.{Fuel, RegionGone}
use Rattle.ti_base.specs.declared.action.CollKind.{CollKind}
use Rattle.ti_base.specs.declared.action.CollKind.TheVariants as coll
use Rattle.ti_base.specs.declared.action.Deposit.{Deposit}
use Rattle.ti_base.specs.declared.action.Deposit.TheVariants as deposit
use Rattle.ti_base.specs.declared.action.Action.{Action}
use Rattle.ti_base.specs.declared.action.Action.TheVariants as act
use Rattle.ti_base.specs.declared.entry.Answer.{Answer}
use Rattle.ti_base.specs.declared.entry.Answer.TheVariants.{Done}
use Rattle.ti_base.specs.declared.entry.Entry.{Entry}
use Rattle.ti_lang.specs.Program.Types.{VariableUse}
use Rattle.ti_lang.specs.Program.Expressions.{NumberedExp, NumberedExps}
use Rattle.ti_lang.specs.Program.Expressions as e
use Rattle.ti_lang.specs.Program.Statements.{NumberedInit, NumberedStm, NoStm}
use Rattle.ti_lang.specs.Program.Statements as s
use Rattle.ti_lang.specs.Program.Classes.{NumberedMethod, ProgramView}
use Rattle.ti_lang.specs.Program.Scope.{this_of}
use Rattle.ti_lang.specs.Typing.BuiltIn.{BuiltIn, Exchange, Delete}
use Rattle.ti_lang.specs.Typing.Called.{member_called}
use Rattle.ti_lang.specs.Typing.Singleness.{has_single_result}
use Rattle.ti_lang.specs.Typing.Effects.{doings, return_acts, has_global_effects}
use Rattle.ti_lang.specs.Meaning.Comp.{ToBeDone, ValueOf, Request, Comp, ◌>>=◌, gives}
use Rattle.ti_lang.specs.Meaning.Answers.{FitsWanted}
use Rattle.ti_lang.specs.Meaning.Conversions.{converted}
use Rattle.ti_lang.specs.Meaning.Processes.{RunConfig, Variable, Receiver, Nowhere, Declared, Assigned, Updated, Loop, While, Foreach, ContItem, Do, End, Before, Behind, Receive, CopyAll, TakeAll, Frame, Wait, Process, begin}
use Rattle.ti_lang.specs.Meaning.Scoping.{Env, env_of, with_new, declared_type, type_here}
use Rattle.ti_lang.specs.Meaning.Evaluation.{eval}
use Rattle.ti_lang.specs.Meaning.Calls.{Call, called, parameters_of}
use Rattle.ti_lang.specs.Meaning.Collectives.{root_among, makes_region, deletes}
use Rattle.ti_lang.specs.Meaning.Moves as move
use Rattle.ti_lang.specs.Meaning.Moves.{goes_on, receives}
use Rattle.ti_lang.specs.Meaning.Statements.{one_more, declared_as, returns, statement}
use Rattle.ti_lang.specs.Meaning.Performing.{exec_item}
use Rattle.ti_lang.specs.Meaning.Steps.{Step, To, At, Ends, Faults, step_of_result, with_continuation, moves, end_of, departs}
use Rattle.ti_lang.specs.Meaning.Histories.{is_departure, entries_of, has_end}
use Rattle.ti_lang.specs.Meaning.RoundsOf as rounds
use Rattle.ti_rules.specs.StmtInContext.{loop_acts}
use Rattle.ti_align.specs.declared.slices.SliceStep.{SliceStep}
use Rattle.ti_align.specs.declared.slices.SliceStep.TheVariants as answer
use Rattle.ti_align.specs.SinglePart.{is_single_declared}
use Rattle.ti_align.specs.Alignment.{SingleArrival, ArrivesAt}

-- ---- what is single in a frame

abbrev pub is_single_named : NumberedExp → Bool
is_single_named (e.Variable at variable) = is_single_declared variable.declared
is_single_named x = false

-- the receiver is a single variable
abbrev pub is_single_receiver : Receiver → Bool
is_single_receiver Nowhere = false
is_single_receiver (Declared at variable) = is_single_declared variable.declared
is_single_receiver (Assigned at target) = is_single_named target
is_single_receiver (Updated at op target) = is_single_named target

-- ---- work with effects

-- whether a loop has global effects
abbrev pub loop_effects : ProgramView → NumberedMethod → Loop → Bool
loop_effects p m (While at c update body) = loop_acts p m update body
loop_effects p m (Foreach at variable domain points body) = loop_acts p m NoStm body

-- whether a jump to the innermost enclosing loop has a global effect, if there is one
abbrev pub jump_at : ProgramView → NumberedMethod → List ContItem → Option Bool
jump_at p m [] = None
jump_at p m (Behind loop ∷ left) = Some (loop_effects p m loop)
jump_at p m (w ∷ left) = jump_at p m left

-- whether a piece of work followed by this work has global effects; the storing of a computed value has one if its receiver is single
abbrev pub work_acts : ProgramView → NumberedMethod → List ContItem → ContItem → Bool
work_acts p m left (Do x) = has_global_effects (return_acts p m) (unwrap_or (jump_at p m left) false) (doings p (this_of m) x)
work_acts p m left (End x) = has_global_effects (return_acts p m) (unwrap_or (jump_at p m left) false) (doings p (this_of m) x)
work_acts p m left (Before loop) = loop_effects p m loop
work_acts p m left (Behind loop) = loop_effects p m loop
work_acts p m left (Receive receiver held) = is_single_receiver receiver
work_acts p m left (CopyAll at to from points) = false
work_acts p m left (TakeAll at grid procs) = false

-- ---- evaluation of work with global effects, from single values only

-- the single parameters, bound to the values of their arguments
abbrev pub single_bound : Env → List VariableUse → NumberedExps → List Variable → Comp (List Variable)
single_bound env (p ∷ ps) (e.MoreExp x xs) found =
    if is_single_declared p.declared
    then (eval env x >>= λ h. converted (e.place_of_numbered x) (declared_type p.declared) h >>= λ k. single_bound env ps xs
    (with_new p k found))
    else single_bound env ps xs found
single_bound env ps xs found = gives found

-- a call, without its receiving object and its plain arguments
abbrev pub single_calling : Env → Receiver → Call → Comp move.Move
single_calling env receiver c = do
  parameters ← single_bound env (parameters_of c.method.params) c.args []
  gives (move.Calls c.place c.method None parameters receiver)

-- an arrival without a contribution
abbrev pub empty_arrival : Wait → Comp move.Move
empty_arrival wait = gives (move.Meets wait deposit.Nothing [])

-- a broadcast, without its value
abbrev pub single_broadcast : Env → Receiver → Place → NumberedExp → NumberedExp → Comp move.Move
single_broadcast env receiver at x p = do
  h ← eval env p
  root ← root_among env.procs at h
  empty_arrival (record { place = at; kind = coll.Broadcast; arg = Some root; wanted = ValueOf (type_here env x); receiver = receiver })

-- a value is stored if the receiver is single; a call is made
abbrev pub single_value : Env → Receiver → NumberedExp → Option Call → Comp move.Move
single_value env receiver x None = if is_single_receiver receiver then receives env receiver (eval env x) else goes_on env
single_value env receiver x (Some c) = single_calling env receiver c

-- an initializer or right-hand side
abbrev pub single_initial : Env → Receiver → NumberedInit → Comp move.Move
single_initial env receiver (s.Value x) = single_value env receiver x (called env x)
single_initial env receiver (s.NewRegion at) = makes_region receiver at
single_initial env receiver (s.Broadcast at x root) = single_broadcast env receiver at x root
single_initial env receiver value = goes_on env

-- the wait for an exchange
abbrev pub exchange_wait : Place → Wait
exchange_wait at = record { place = at; kind = coll.Exchange; arg = None; wanted = ToBeDone; receiver = Nowhere }

-- a member form as an expression statement
abbrev pub single_member : Env → Place → NumberedExp → Option BuiltIn → Comp move.Move
single_member env at x (Some Exchange) = empty_arrival (exchange_wait at)
single_member env at x (Some Delete) = deletes env at x
single_member env at x other = goes_on env

-- an expression statement
abbrev pub single_alone : Env → NumberedExp → Option Call → Comp move.Move
single_alone env x (Some c) = single_calling env Nowhere c
single_alone env (e.Member at x name args) None = single_member env at x (member_called env.program (this_of env.method) x name)
single_alone env x None = goes_on env

-- a `return`, with its value only if the method's result is single
abbrev pub single_return : Env → Place → Option NumberedExp → Comp move.Move
single_return env at value = if has_single_result env.method then returns env at value else gives (move.Returns None)

-- a statement with global effects
abbrev pub single_statement : Env → NumberedStm → Comp move.Move
single_statement env (s.Declare at type variable value) = single_initial env (Declared at (declared_as type variable)) value
single_statement env (s.Assign at target value) = single_initial env (Assigned at target) value
single_statement env (s.Update at op target x) = single_initial env (Updated at op target) (s.Value x)
single_statement env (s.Step at op target) = single_initial env (Updated at (one_more op) target) (s.Value (e.Int at (pos 1)))
single_statement env (s.Call x) = single_alone env x (called env x)
single_statement env (s.Return at value) = single_return env at value
single_statement env x = statement env x

-- a piece of work with global effects
abbrev pub single_performed : Env → ContItem → Comp move.Move
single_performed env (Do x) = single_statement env x
single_performed env w = exec_item env w

-- ---- the steps of the slice

-- The slice executes a frame as a process does, except that work without global effects is skipped. Single expressions request nothing.
abbrev pub slice_works : Process → Frame → List Frame → List ContItem → Step
slice_works p f fs [] = moves p f fs [] (move.Returns None)
slice_works p f fs (w ∷ left) =
    if work_acts p.setting.program f.method left w
    then step_of_result p (single_performed (env_of p f left) w []) (moves p f fs left)
    else To (with_continuation p f fs f.variables left)

-- its step if it isn't waiting
abbrev pub slice_runs : Process → List Frame → Step
slice_runs p [] = Ends (end_of p.setting.program)
slice_runs p (f ∷ fs) = slice_works p f fs f.left

-- its step if it may be waiting at a collective, from which its only step is the departure
abbrev pub slice_steps : Process → Option Wait → Step
slice_steps p None = slice_runs p p.frames
slice_steps p (Some w) = departs p w

-- One step of the slice. An iteration of a loop with global effects, a call of a single method, an arrival and a departure cost one tick
-- each, and the call depth has the same limit as in a process.
abbrev pub slice_step : Process → Step
slice_step p = slice_steps p p.wait

-- ---- regions

-- the action is the arrival at a delete of one of these regions
abbrev pub deletes_one : List ℕ → Action → Bool
deletes_one gone (act.Arrive kind arg given) = list_any (λ r. rounds.deletes r kind arg) gone
deletes_one gone a = false

-- a step, if these regions are deleted: to arrive at a delete of one of them is a fault
abbrev pub fault_if_deleted : List ℕ → Step → Step
fault_if_deleted gone (At request go) = if deletes_one gone request.action then Faults RegionGone request.place else At request go
fault_if_deleted gone step = step

-- the region that a collective deletes, if it deletes one
abbrev pub deleted_at : CollKind → Option ℕ → List ℕ
deleted_at coll.DeleteRegion (Some r) = r ∷ []
deleted_at kind arg = []

-- the regions that are deleted when a process leaves what it waits at, if it waits
abbrev pub deleted_by : Option Wait → List ℕ
deleted_by None = []
deleted_by (Some w) = deleted_at w.kind w.arg

-- ---- the answer

-- a fault of the slice itself; `Fuel` is reported as having run out of fuel
abbrev pub at_fault : FaultKind → Place → SliceStep
at_fault Fuel place = answer.NoFuel
at_fault kind place = answer.Faults kind place

-- The answer x of the slice from a state p on, if the regions `gone` are deleted, k departures have got their outcomes, and these
-- outcomes are left.
pub data SliceComes : Process → List ℕ → ℕ → List Answer → SliceStep → Type 0 where
  -- it makes a step that requests nothing
  silent : {p q : Process} {gone : List ℕ} {k : ℕ} {outcomes : List Answer} {x : SliceStep} → fault_if_deleted gone (slice_step p) ≡ To q
      → SliceComes q gone k outcomes x → SliceComes p gone k outcomes x
  -- it arrives at a collective, and no outcome is left
  stands : {p : Process} {gone : List ℕ} {k : ℕ} {request : Request} {go : Answer
      → Process} {kind : CollKind} {arg : Option ℕ} {given : Deposit} →
      fault_if_deleted gone (slice_step p) ≡ At request go → request.action ≡ act.Arrive kind arg given
      → SliceComes p gone k [] (answer.At kind request.place arg)
  -- it arrives at a collective, and continues to its departure
  arrives : {p : Process} {gone : List ℕ} {k : ℕ} {request : Request} {go : Answer
      → Process} {kind : CollKind} {arg : Option ℕ} {given : Deposit} {r : Answer} {rest : List Answer} {x : SliceStep} →
      fault_if_deleted gone (slice_step p) ≡ At request go → request.action ≡ act.Arrive kind arg given → SliceComes (go Done) gone k (r ∷ rest) x
      → SliceComes p gone k (r ∷ rest) x
  -- it departs with an outcome that fits
  leaves : {p : Process} {gone : List ℕ} {k : ℕ} {request : Request} {go : Answer
      → Process} {r : Answer} {rest : List Answer} {x : SliceStep} →
      fault_if_deleted gone (slice_step p) ≡ At request go → request.action ≡ act.Depart → FitsWanted request.wanted r
      → SliceComes (go r) (deleted_by p.wait ++ gone) (k + 1) rest x
      → SliceComes p gone k (r ∷ rest) x
  -- the outcome doesn't fit its departure
  unfit : {p : Process} {gone : List ℕ} {k : ℕ} {request : Request} {go : Answer → Process} {r : Answer} {rest : List Answer} →
      fault_if_deleted gone (slice_step p) ≡ At request go → request.action ≡ act.Depart → (FitsWanted request.wanted r → ⊥)
      → SliceComes p gone k (r ∷ rest) (answer.Unfit k)
  -- it ends or faults, and no outcome is left
  ends : {p : Process} {gone : List ℕ} {k : ℕ} {place : Place} → fault_if_deleted gone (slice_step p) ≡ Ends place → SliceComes p gone k [] answer.Ended
  faults : {p : Process} {gone : List ℕ} {k : ℕ} {kind : FaultKind} {place : Place} → fault_if_deleted gone (slice_step p) ≡ Faults kind place
      → SliceComes p gone k [] (at_fault kind place)
  -- it ends or faults, though outcomes are left
  ended : {p : Process} {gone : List ℕ} {k : ℕ} {place : Place} {r : Answer} {rest : List Answer} → fault_if_deleted gone (slice_step p) ≡ Ends place
      → SliceComes p gone k (r ∷ rest) (answer.Unfit k)
  faulted : {p : Process} {gone : List ℕ} {k : ℕ} {kind : FaultKind} {place : Place} {r : Answer} {rest : List Answer} →
      fault_if_deleted gone (slice_step p) ≡ Faults kind place → SliceComes p gone k (r ∷ rest) (answer.Unfit k)

-- the answer of a program's slice after these outcomes of its departures
abbrev pub SliceAnswers : RunConfig → List Answer → SliceStep → Type 0
SliceAnswers n outcomes x = SliceComes (begin n 0) [] 0 outcomes x

-- ---- runs

-- the answer isn't that an outcome is wrong
abbrev pub AllFit : SliceStep → Type 0
AllFit (answer.Unfit k) = ⊥
AllFit x = Unit {0}

-- the answers that a process received at its departures in a run
abbrev pub answers_at_departures : ℕ → List Entry → List Answer
answers_at_departures i es = map (λ (e : Entry). e.answer) (filter (λ (e : Entry). is_departure e.act) (entries_of i es))

-- what the slice determines of a run
pub record SliceTells (s : RunConfig) (es : List Entry) : Type 0 where
  -- the outcomes of a process's departures fit
  pub fits : (i : ℕ) (x : SliceStep) → SliceAnswers s (answers_at_departures i es) x → AllFit x
  -- the arrival of a process after n departures is the one at which the slice arrives after their outcomes
  pub arrives : (i : ℕ) (outcomes others : List Answer) (x : SliceStep) (a : SingleArrival) → SliceAnswers s outcomes x
      → answers_at_departures i es ≡ outcomes ++ others
      → ArrivesAt s es i (length outcomes) a → x ≡ answer.At a.kind a.place a.arg
  -- if a process has ended, the slice ends after the outcomes of all its departures
  pub ends : (i : ℕ) (x : SliceStep) → SliceAnswers s (answers_at_departures i es) x → has_end i es ≡ true → x ≡ answer.Ended
