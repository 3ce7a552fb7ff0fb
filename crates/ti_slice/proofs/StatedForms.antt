-- Proves that the outcomes of expressions and statements with effects in the slice are those of its specification, by their forms.
use Rattle.std.proofs.Common.{◌≡◌, refl, sym, subst, ℕ, List, Option, Some, Result}
use Rattle.std.specs.Borrow.{Bor}
use Rattle.std.specs.declared.alloc.Global.{Global}
use Rattle.std.specs.declared.boxed.Box.{Box}
use Rattle.ti_base.specs.declared.entry.Answer.{Answer}
use Rattle.ti_base.specs.declared.place.Place.{Place}
use Rattle.ti_syntax.specs.declared.tree.exprs.BinaryOperator.{BinaryOperator}
use Rattle.ti_syntax.specs.declared.tree.stmts.StepOperator.{StepOperator}
use Rattle.ti_lang.specs.declared.program.exprs.Expr.{Expr}
use Rattle.ti_lang.specs.declared.program.stmts.Init.{Init}
use Rattle.ti_lang.specs.declared.program.stmts.Stmt.{Stmt, None', Some'}
use Rattle.ti_lang.specs.declared.program.stmts.Stmt.TheVariants as st
use Rattle.ti_lang.specs.declared.program.types.TypeUse.{TypeUse}
use Rattle.ti_lang.specs.Program.Expressions.{NumberedExp}
use Rattle.ti_lang.specs.Program.Statements.{NumberedStm}
use Rattle.ti_lang.specs.Program.Statements as stm
use Rattle.ti_lang.specs.Program.Views.{statement_of}
use Rattle.ti_lang.specs.Meaning.Calls.{Call, called}
use Rattle.ti_lang.specs.Meaning.Scoping.{Env}
use Rattle.ti_lang.specs.Meaning.Statements.{statement}
use Rattle.ti_align.specs.Slice.{single_value, single_alone, single_statement}
use Rattle.ti_eval.specs.declared.interrupt.Interrupt.{Interrupt}
use Rattle.ti_eval.specs.Comes.{ComesAs}
use Rattle.ti_moves.specs.declared.outcomes.StmtOutcome.{StmtOutcome}
use Rattle.ti_moves.specs.Outcomes.{move_after}
use Rattle.ti_moves.specs.Receiving.{receiver_of}
use Rattle.ti_slice.specs.Mirrors.SingleCalls.{SingleCallComes}

-- ---- calls

-- a right side that is a call
pub called_first : (E : Env) (x : NumberedStm) (e : NumberedExp) (answers : List Answer) (r : Result (StmtOutcome × Bor (List Answer)) Interrupt) → SingleCallComes E x answers (Some r) (called E e)
    → ComesAs (move_after E x) r (single_value E (receiver_of x) e (called E e) answers)
called_first E x e answers r h = subst (λ (o : Option Call). ComesAs (move_after E x) r (single_value E (receiver_of x) e o answers)) (sym h.1) h.2

-- an expression alone that is a call
pub called_alone : (E : Env) (e : NumberedExp) (answers : List Answer) (r : Result (StmtOutcome × Bor (List Answer)) Interrupt) → SingleCallComes E (stm.Call e) answers (Some r) (called E e)
    → ComesAs (move_after E (stm.Call e)) r (single_alone E e (called E e) answers)
called_alone E e answers r h = subst (λ (o : Option Call). ComesAs (move_after E (stm.Call e)) r (single_alone E e o answers)) (sym h.1) h.2

-- ---- statements

-- a statement of a form that the slice performs as a process does
pub record IsCommon (s : Stmt) : Type 0 where
  pub no_declaration : (at : Place) (ty : TypeUse) (variable : ℕ) (value : Box Init Global) → s ≡ st.Declare at ty variable value → ⊥
  pub no_assignment : (at : Place) (target : Expr) (value : Box Init Global) → s ≡ st.Assign at target value → ⊥
  pub no_update : (at : Place) (op : BinaryOperator) (target value : Expr) → s ≡ st.Update at op target value → ⊥
  pub no_step : (at : Place) (op : StepOperator) (target : Expr) → s ≡ st.Step at op target → ⊥
  pub no_call : (e : Expr) → s ≡ st.Call e → ⊥
  pub no_return : (at : Place) (value : Option Expr) → s ≡ st.Return at value → ⊥

pub same_as_ever : (E : Env) (s : Stmt) → IsCommon s → statement E (statement_of s) ≡ single_statement E (statement_of s)
same_as_ever E (st.Declare at ty variable value) f = absurd (f.no_declaration at ty variable value refl)
same_as_ever E (st.Assign at target value) f = absurd (f.no_assignment at target value refl)
same_as_ever E (st.Update at op target value) f = absurd (f.no_update at op target value refl)
same_as_ever E (st.Step at op target) f = absurd (f.no_step at op target refl)
same_as_ever E (st.Call e) f = absurd (f.no_call e refl)
same_as_ever E (st.Return at value) f = absurd (f.no_return at value refl)
same_as_ever E (st.If' at c h a None') f = refl
same_as_ever E (st.If' at c h a (Some' k b)) f = refl
same_as_ever E _ f = refl
