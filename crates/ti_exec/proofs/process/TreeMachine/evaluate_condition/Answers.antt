use Rattle.std.proofs.Common.{◌∙◌, ap, sym, subst, Some}
use Rattle.ti_eval.specs.Comes.{Stops}
use Rattle.ti_lang.specs.Meaning.Comp.{CompResult}
use Rattle.ti_lang.specs.Meaning.Held.{Held}
use Rattle.ti_exec.specs.Pending.{truth_in}
use Rattle.ti_exec.proofs.Begun.{same_condition}
use Rattle.ti_exec.proofs.process.TreeMachine.evaluate_condition.Goals as goal

pub returns-in-Ok : goal.returns-in-Ok
returns-in-Ok c =
    let e = same_condition _ _ _ _ _ _ c.env-env.ensures c.current_stmt-x.ensures c.deref.ensures.value in
    ap truth_in (sym e ∙ c.in-Ok.ensures) ∙ ap Some (sym c.is_true.ensures)

pub returns-in-Err : goal.returns-in-Err
returns-in-Err c = subst (λ (got : CompResult Held). Stops c.in-Err.stop got) (same_condition _ _ _ _ _ _ c.env-env.ensures c.current_stmt-x.ensures c.deref.ensures.value) c.in-Err.ensures
