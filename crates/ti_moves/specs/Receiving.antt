-- What contracts see of receivers and right sides in the code.
use Rattle.std.specs.Prelude.{Option, None, Some}
use Rattle.std.specs.Borrow.{Bor}
use Rattle.ti_lang.specs.declared.program.stmts.Stmt.{Stmt}
use Rattle.ti_lang.specs.Program.Statements.{NumberedStm}
use Rattle.ti_lang.specs.Program.Statements as s
use Rattle.ti_lang.specs.Program.Views.{expression_of, statement_of, type_use_of}
use Rattle.ti_lang.specs.Meaning.Held.{Held}
use Rattle.ti_lang.specs.Meaning.Comp.{Comp, gives}
use Rattle.ti_lang.specs.Meaning.Processes as process
use Rattle.ti_lang.specs.Meaning.Scoping.{Env}
use Rattle.ti_lang.specs.Meaning.Evaluation.{eval}
use Rattle.ti_lang.specs.Meaning.Statements.{declared_as, one_more}
use Rattle.ti_moves.specs.declared.assign.Dest.{Dest}
use Rattle.ti_moves.specs.declared.assign.Dest.TheVariants as r
use Rattle.ti_moves.specs.declared.assign.RightSide.{RightSide}
use Rattle.ti_moves.specs.declared.assign.RightSide.TheVariants as right

-- A statement; a missing one is empty.
abbrev pub stm_seen : Option (Bor Stmt) → NumberedStm
stm_seen None = s.Empty
stm_seen (Some b) = statement_of b.now

abbrev pub dest_seen : Dest → process.Receiver
dest_seen r.Nowhere = process.Nowhere
dest_seen (r.Declared at ty variable) = process.Declared at (declared_as (type_use_of ty.now) variable)
dest_seen (r.Assigned at target) = process.Assigned at (expression_of target.now)
dest_seen (r.Updated at op target) = process.Updated at op (expression_of target.now)

-- The receiver of the value of a statement's right side.
abbrev pub receiver_of : NumberedStm → process.Receiver
receiver_of (s.Declare at type variable value) = process.Declared at (declared_as type variable)
receiver_of (s.Assign at target value) = process.Assigned at target
receiver_of (s.Update at op target x) = process.Updated at op target
receiver_of (s.Step at op target) = process.Updated at (one_more op) target
receiver_of x = process.Nowhere

-- The evaluation of a right side.
abbrev pub right_seen : Env → RightSide → Comp Held
right_seen env (right.Value x) = eval env (expression_of x.now)
right_seen env (right.Known h) = gives h.now
