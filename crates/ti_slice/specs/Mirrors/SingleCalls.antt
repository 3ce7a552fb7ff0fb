-- What contracts see of calls and of values on their way in the program slice.
use Rattle.std.specs.Prelude.{◌≡◌, if◌then◌else◌, List, ◌∷◌, Option, None, Some, Result}
use Rattle.std.specs.Borrow.{Bor}
use Rattle.ti_base.specs.declared.entry.Answer.{Answer}
use Rattle.ti_lang.specs.Program.Types.{VariableUse}
use Rattle.ti_lang.specs.Program.Expressions.{NumberedExp}
use Rattle.ti_lang.specs.Program.Statements.{NumberedStm}
use Rattle.ti_lang.specs.Meaning.Held.{Held}
use Rattle.ti_lang.specs.Meaning.Comp.{Comp, ◌>>=◌, gives}
use Rattle.ti_lang.specs.Meaning.Calls.{Call}
use Rattle.ti_lang.specs.Meaning.Moves.{goes_on, receives}
use Rattle.ti_lang.specs.Meaning.Moves as move
use Rattle.ti_lang.specs.Meaning.Processes.{Variable, Receiver}
use Rattle.ti_lang.specs.Meaning.Scoping.{Env}
use Rattle.ti_align.specs.SinglePart.{is_single_declared}
use Rattle.ti_align.specs.Slice.{is_single_receiver, single_calling}
use Rattle.ti_eval.specs.declared.interrupt.Interrupt.{Interrupt}
use Rattle.ti_eval.specs.Comes.{ComesAs}
use Rattle.ti_moves.specs.declared.outcomes.StmtOutcome.{StmtOutcome}
use Rattle.ti_moves.specs.Arguments.{bound_argument}
use Rattle.ti_moves.specs.Outcomes.{move_after}
use Rattle.ti_moves.specs.Receiving.{receiver_of}

-- A parameter with the value of its argument is added to those found so far, if it is single.
abbrev pub single_found : Env → VariableUse → NumberedExp → List Variable → Comp (List Variable)
single_found env p x found = if is_single_declared p.declared then (bound_argument env p x >>= λ w. gives (w ∷ found)) else gives found

-- The outcome of a call as a statement of the slice, if the expression is a call.
abbrev pub SingleCallComes : Env → NumberedStm → List Answer → Option (Result (StmtOutcome × Bor (List Answer)) Interrupt) → Option Call → Type 0
SingleCallComes env x answers None call = call ≡ None
SingleCallComes env x answers (Some r) call =
    (c : Call) × (call ≡ Some c) × ComesAs (move_after env x) r (single_calling env (receiver_of x) c answers)

-- The value of a right side is stored if its receiver is single.
abbrev pub single_received : Env → Receiver → Comp Held → Comp move.Move
single_received env receiver right = if is_single_receiver receiver then receives env receiver right else goes_on env
