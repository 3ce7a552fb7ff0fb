use Rattle.std.proofs.Common.{refl, sym, ap, subst, ◌∙◌}
use Rattle.ti_base.specs.declared.fault.FaultKind.TheVariants.{RegionGone}
use Rattle.ti_base.specs.declared.action.Action.TheVariants as act
use Rattle.ti_base.specs.declared.action.CollKind.TheVariants as coll
use Rattle.ti_base.specs.declared.entry.Answer.TheVariants.{Done}
use Rattle.ti_lang.specs.Meaning.HeapAnswers.{Answers, faults_if, heap_answer}
use Rattle.ti_store.specs.Mirrors.RunState.{IsPossible}
use Rattle.ti_store.specs.Mirrors.Parts.{program_in, history_in}
use Rattle.ti_store.proofs.Deleting.{reach_answer}
use Rattle.ti_store.proofs.Replies.{fault_does}
use Rattle.ti_store.proofs.run_state.RunState.reach_delete.Goals as goal

pub returns-then-is_gone : goal.returns-then-is_gone
returns-then-is_gone c =
    let l = c.args.self.now in
    let h = history_in l in
    let possible = subst (λ o. IsPossible (heap_answer (program_in l) h c.args.proc (act.Arrive coll.DeleteRegion o c.args.given))) c.in-Some.is c.requires.may.possible in
    fault_does l l.heap c.args.proc c.args.place (act.Arrive coll.DeleteRegion c.args.arg c.args.given) RegionGone c.requires refl
    (ap (λ o. heap_answer (program_in l) h c.args.proc (act.Arrive coll.DeleteRegion o c.args.given)) c.in-Some.is
    ∙ reach_answer (program_in l) h c.args.proc c.in-Some.region c.args.given possible
    ∙ ap (λ b. faults_if b RegionGone (Answers Done)) (sym c.is_gone.ensures ∙ c.if-is_gone.true))
