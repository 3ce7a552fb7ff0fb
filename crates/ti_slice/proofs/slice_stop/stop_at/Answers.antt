use Rattle.std.proofs.Common.{◌∙◌, ap, sym, subst}
use Rattle.ti_base.specs.declared.entry.Next.TheVariants.{Act}
use Rattle.ti_align.specs.Slice.{slice_step, deletes_one}
use Rattle.ti_exec.specs.declared.process.PendingRequest.{PendingRequest}
use Rattle.ti_exec.specs.States.{process_of, after_answer, RequestsNext}
use Rattle.ti_slice.proofs.Meeting.{stands_gone, stands_there}
use Rattle.ti_slice.proofs.slice_stop.stop_at.Goals as goal

pub returns-then-deletes_gone : goal.returns-then-deletes_gone
returns-then-deletes_gone c p s =
    let w = c.args.machine.now in
    let q = c.into_inner-action.result in
    let z = subst (λ (a : PendingRequest). RequestsNext (slice_step (process_of p w)) (Act a.place a.action) (after_answer p w a.on_answer)) (sym c.into_inner-action.ensures) s in
    stands_gone p w c.args.gone.now q.place q.action q.on_answer z (ap (deletes_one c.args.gone.now) c.in-Arrive.is ∙ sym (c.deletes_gone.ensures c.in-Arrive.deposit) ∙ c.if-deletes_gone.true)

pub returns-else-deletes_gone : goal.returns-else-deletes_gone
returns-else-deletes_gone c p s =
    let w = c.args.machine.now in
    let q = c.into_inner-action.result in
    let z = subst (λ (a : PendingRequest). RequestsNext (slice_step (process_of p w)) (Act a.place a.action) (after_answer p w a.on_answer)) (sym c.into_inner-action.ensures) s in
    let y = subst (λ a. RequestsNext (slice_step (process_of p w)) (Act q.place a) (after_answer p w q.on_answer)) c.in-Arrive.is z in
    stands_there p w c.args.gone.now q.place c.in-Arrive.kind c.in-Arrive.arg c.in-Arrive.deposit q.on_answer y (sym (c.deletes_gone.ensures c.in-Arrive.deposit) ∙ c.if-deletes_gone.false)
