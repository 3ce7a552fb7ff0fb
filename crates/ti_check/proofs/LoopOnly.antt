-- The rules of types ask of a loop around a statement only whether there is one: so the errors of a statement are the same whether a jump
-- out of that loop has a global effect or not.
use Rattle.std.proofs.Common.{◌≡◌, Bool, true, false, Option, Some, None, is_some, refl}
use Rattle.ti_lang.specs.Program.Statements.{NumberedStm}
use Rattle.ti_lang.specs.Program.Statements as st
use Rattle.ti_lang.specs.Program.Classes.{ProgramView}
use Rattle.ti_rules.specs.StmtInContext.{StmtContext}
use Rattle.ti_rules.specs.Broken.Statements.{statement_refusals}
use Rattle.ti_check.specs.Mirrors.Contexts.{jump_in}

any_jump : (p : ProgramView) (around : StmtContext) (a b : Bool) (x : NumberedStm)
    → statement_refusals p (record around { jump_has = Some a }) x ≡ statement_refusals p (record around { jump_has = Some b }) x
any_jump p around a b (st.Declare at type variable value) = refl
any_jump p around a b (st.Assign at target value) = refl
any_jump p around a b (st.Update at op target e) = refl
any_jump p around a b (st.Step at op target) = refl
any_jump p around a b (st.Call e) = refl
any_jump p around a b (st.Print at what) = refl
any_jump p around a b (st.If at c x) = refl
any_jump p around a b (st.IfElse at c x y) = refl
any_jump p around a b (st.While at c body) = refl
any_jump p around a b (st.For at first c update body) = refl
any_jump p around a b (st.Foreach at number domain body) = refl
any_jump p around a b (st.Break at) = refl
any_jump p around a b (st.Continue at) = refl
any_jump p around a b (st.Return at value) = refl
any_jump p around a b x = refl

with_jump : (p : ProgramView) (around : StmtContext) (o : Option Bool) (x : NumberedStm)
    → statement_refusals p (record around { jump_has = jump_in (is_some o) false }) x ≡ statement_refusals p (record around { jump_has = o }) x
with_jump p around None x = refl
with_jump p around (Some b) x = any_jump p around false b x

pub loop_only : (p : ProgramView) (around : StmtContext) (x : NumberedStm)
    → statement_refusals p (record around { jump_has = jump_in (is_some around.jump_has) false }) x ≡ statement_refusals p around x
loop_only p around x = with_jump p around around.jump_has x
