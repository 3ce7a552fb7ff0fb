-- What contracts see of the outcomes of statements (moves) in the code.
use Rattle.std.specs.Prelude.{ℕ, List, [], ◌∷◌, slice_get, unwrap_or}
use Rattle.ti_lang.specs.Program.Types.{ValueType}
use Rattle.ti_lang.specs.Program.Types as t
use Rattle.ti_lang.specs.Program.Statements.{NumberedInit, NumberedStm}
use Rattle.ti_lang.specs.Program.Statements as s
use Rattle.ti_lang.specs.Program.Classes.{NumberedMethod, ProgramView}
use Rattle.ti_lang.specs.Program.Scope.{this_of}
use Rattle.ti_lang.specs.Program.Views.{variable_of}
use Rattle.ti_lang.specs.Meaning.Comp.{Wanted, ToBeDone, ValueOf}
use Rattle.ti_lang.specs.Meaning.Processes.{Variable, Receiver, Nowhere, ContItem, Do, Wait}
use Rattle.ti_lang.specs.Meaning.Scoping.{Env, with_new, with_changed, type_here}
use Rattle.ti_lang.specs.Meaning.Moves as move
use Rattle.ti_eval.specs.Frames.{MethodContext, no_method, slots_of, work_of}
use Rattle.ti_eval.specs.Places.{child_of}
use Rattle.ti_moves.specs.declared.outcomes.VarUpdate.{VarUpdate}
use Rattle.ti_moves.specs.declared.outcomes.VarUpdate.TheVariants as c
use Rattle.ti_moves.specs.declared.outcomes.CollectiveCall.{CollectiveCall}
use Rattle.ti_moves.specs.declared.outcomes.Continuation.{Continuation}
use Rattle.ti_moves.specs.declared.outcomes.Continuation.TheVariants as l
use Rattle.ti_moves.specs.declared.outcomes.StmtOutcome.{StmtOutcome}
use Rattle.ti_moves.specs.declared.outcomes.StmtOutcome.TheVariants as m
use Rattle.ti_moves.specs.Receiving.{receiver_of}

-- The variables in scope after a change.
abbrev pub update_variables : VarUpdate → List Variable → List Variable
update_variables c.Same ws = ws
update_variables (c.New slot) ws = with_new (variable_of slot.variable) slot.held ws
update_variables (c.Changed v h) ws = with_changed (variable_of v.now) h ws

abbrev pub context_in : Env → MethodContext
context_in env = record { program = env.program; this = this_of env.method; procs = env.procs }

-- The pending work of a statement.
abbrev pub works_of : MethodContext → NumberedStm → Continuation → List ContItem
works_of site x (l.Own t) = work_of site x t
works_of site x (l.Child p t) = Do (child_of x p) ∷ work_of site x t

-- The method with this number.
abbrev pub method_at : ProgramView → ℕ → NumberedMethod
method_at program number = unwrap_or (slice_get program.methods number) no_method

-- ---- collectives

abbrev pub wait_of : CollectiveCall → Wanted → Receiver → Wait
wait_of m wanted receiver = record { place = m.place; kind = m.kind; arg = m.arg; wanted = wanted; receiver = receiver }

-- The type of the value that a right side gets from a collective.
abbrev pub type_given : Env → NumberedInit → ValueType
type_given env (s.Broadcast at x root) = type_here env x
type_given env value = t.Region

-- The type of the value for which a statement waits at a collective.
abbrev pub type_received : Env → NumberedStm → ValueType
type_received env (s.Declare at type variable value) = type_given env value
type_received env (s.Assign at target value) = type_given env value
type_received env x = t.Region

abbrev pub expected_wait : Env → NumberedStm → CollectiveCall → Wait
expected_wait env x m = wait_of m (ValueOf (type_received env x)) (receiver_of x)

-- ---- moves

-- The outcome of a statement.
abbrev pub move_after : Env → NumberedStm → StmtOutcome → move.Move
move_after env x (m.Goes change left) = move.Goes (update_variables change env.variables) (works_of (context_in env) x left)
move_after env x m.Breaks = move.Breaks
move_after env x m.Continues = move.Continues
move_after env x (m.Calls at method this parameters) =
    move.Calls at (method_at env.program method) this (slots_of parameters.items) (receiver_of x)
move_after env x (m.Returns value) = move.Returns value
move_after env x (m.Meets collective deposit resume) = move.Meets (wait_of collective ToBeDone Nowhere) deposit (work_of (context_in env) x resume)
move_after env x (m.Expects collective deposit) = move.Meets (expected_wait env x collective) deposit []
move_after env x (m.Deletes at region) = move.Deletes at region
