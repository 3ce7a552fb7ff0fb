-- Proves that the outcomes of statements in the code are those of the semantics.
use Rattle.std.proofs.Common.{◌≡◌, ◌∙◌, ap, refl, sym, subst, ℕ, List, ◌++◌, ◌∷◌, map, Option, Some, None, Result}
use Rattle.std.specs.Borrow.{Bor}
use Rattle.std.specs.declared.alloc.Global.{Global}
use Rattle.std.specs.declared.boxed.Box.{Box}
use Rattle.std.specs.declared.vec.Vec.{Vec}
use Rattle.ti_base.specs.declared.entry.Answer.{Answer}
use Rattle.ti_base.specs.declared.place.Place.{Place}
use Rattle.ti_lang.specs.declared.program.exprs.Expr.{Expr, Member, Member', roll-Expr, roll-out-Expr}
use Rattle.ti_lang.specs.declared.program.exprs.Expr.TheVariants.{outs-Member', rolls-Member}
use Rattle.ti_lang.specs.declared.program.exprs.Expr.TheVariants as e
use Rattle.ti_lang.specs.declared.typing.members.BuiltIn.{BuiltIn}
use Rattle.ti_lang.specs.declared.typing.members.BuiltIn.TheVariants as built
use Rattle.ti_lang.specs.Program.Expressions.{NumberedExp, NumberedExps}
use Rattle.ti_lang.specs.Program.Expressions as exp
use Rattle.ti_lang.specs.Program.Statements.{NumberedStms, Nil, Cons}
use Rattle.ti_lang.specs.Program.Statements as stm
use Rattle.ti_lang.specs.Program.Scope.{this_of}
use Rattle.ti_lang.specs.Program.Views.{expression_of}
use Rattle.ti_lang.specs.Typing.BuiltIn as member
use Rattle.ti_lang.specs.Typing.Called.{member_called}
use Rattle.ti_lang.specs.Typing.TyRef.{built_in_of}
use Rattle.ti_lang.specs.Meaning.Comp.{Comp}
use Rattle.ti_lang.specs.Meaning.Evaluation.{eval}
use Rattle.ti_lang.specs.Meaning.Moves.{receives}
use Rattle.ti_lang.specs.Meaning.Moves as moves
use Rattle.ti_lang.specs.Meaning.Processes.{Nowhere, ContItem, Do, all_before}
use Rattle.ti_lang.specs.Meaning.Scoping.{Env}
use Rattle.ti_lang.specs.Meaning.Statements.{alone, member_alone}
use Rattle.ti_eval.specs.declared.interrupt.Interrupt.{Interrupt}
use Rattle.ti_eval.specs.Comes.{ComesAs}
use Rattle.ti_eval.specs.Places.{list_of}
use Rattle.ti_moves.specs.declared.outcomes.StmtOutcome.{StmtOutcome}
use Rattle.ti_moves.specs.Outcomes.{move_after}

-- the statements of a block come before its end
pub before_list : (b : NumberedStms) (left : List ContItem) → all_before b left ≡ map Do (list_of b) ++ left
before_list Nil left = refl
before_list (Cons x rest) left = ap (λ ws. Do x ∷ ws) (before_list rest left)

-- ---- expressions alone that are no call

-- a member form
pub member_comes : (E : Env) (e : NumberedExp) (at : Place) (x : NumberedExp) (name : ℕ) (args : NumberedExps) (k : Option member.BuiltIn)
    (answers : List Answer) (r : Result (StmtOutcome × Bor (List Answer)) Interrupt)
    → e ≡ exp.Member at x name args → k ≡ member_called E.program (this_of E.method) x name
    → ComesAs (move_after E (stm.Call (exp.Member at x name args))) r (member_alone E at x args (receives E Nowhere (eval E e)) k answers) → ComesAs (move_after E (stm.Call e)) r (alone E e None answers)
member_comes E e at x name args k answers r is seen h =
    let m = exp.Member at x name args in
    subst (λ (y : NumberedExp). ComesAs (move_after E (stm.Call y)) r (alone E y None answers)) (sym is)
    (subst (λ (y : NumberedExp). ComesAs (move_after E (stm.Call m)) r (member_alone E at x args (receives E Nowhere (eval E y)) (member_called E.program (this_of E.method) x name) answers)) is
    (subst (λ (o : Option member.BuiltIn). ComesAs (move_after E (stm.Call m)) r (member_alone E at x args (receives E Nowhere (eval E e)) o answers)) seen h))

-- a member that has a value, which is dropped
pub member_dropped : (E : Env) (at : Place) (x : NumberedExp) (args : NumberedExps) (other : Comp moves.Move) (b : BuiltIn) → (b ≡ built.Copy → ⊥) → (b ≡ built.Exchange → ⊥) → (b ≡ built.Delete → ⊥)
    → other ≡ member_alone E at x args other (Some (built_in_of b))
member_dropped E at x args other built.Copy f g h = absurd (f refl)
member_dropped E at x args other built.Exchange f g h = absurd (g refl)
member_dropped E at x args other built.Delete f g h = absurd (h refl)
member_dropped E at x args other built.Size f g h = refl
member_dropped E at x args other built.Min f g h = refl
member_dropped E at x args other built.Max f g h = refl
member_dropped E at x args other built.Contains f g h = refl
member_dropped E at x args other built.Domain f g h = refl
member_dropped E at x args other built.Restrict f g h = refl
member_dropped E at x args other built.Translate f g h = refl
member_dropped E at x args other built.Slice f g h = refl

-- no member form
abbrev pub IsNoMember : Expr → Type 0
IsNoMember a = (at : Place) (x : Box Expr Global) (name : ℕ) (args : Vec Expr Global) → a ≡ Member at x name args → ⊥

-- the value of any other expression is dropped
pub other_dropped : (E : Env) (a : Expr) → IsNoMember a → receives E Nowhere (eval E (expression_of a)) ≡ alone E (expression_of a) None
other_dropped E (Member' at h x name k args) f = absurd (f _ _ _ _ (sym (roll-out-Expr (Member' at h x name k args)) ∙ ap roll-Expr (outs-Member' at h x name k args) ∙ rolls-Member _ _ _ _))
other_dropped E (e.Int at n) f = refl
other_dropped E (e.Long at n) f = refl
other_dropped E (e.Bool at b) f = refl
other_dropped E (e.Null at) f = refl
other_dropped E (e.This at) f = refl
other_dropped E (e.Variable at v) f = refl
other_dropped E (e.OwnField at field) f = refl
other_dropped E (e.Call' at method k args) f = refl
other_dropped E (e.OwnCall' at method k args) f = refl
other_dropped E (e.ThisProc at) f = refl
other_dropped E (e.NumProcs at) f = refl
other_dropped E (e.Point' at k parts) f = refl
other_dropped E (e.Rect' at k ranges) f = refl
other_dropped E (e.Unary' at op h x) f = refl
other_dropped E (e.Binary' at op h x k y) f = refl
other_dropped E (e.Cast' at to h x) f = refl
other_dropped E (e.Select' at h x name) f = refl
other_dropped E (e.Index' at h x k parts) f = refl
