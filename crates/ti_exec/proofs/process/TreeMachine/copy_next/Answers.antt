use Rattle.ti_lang.specs.Program.Views.{program_of}
use Rattle.ti_eval.specs.declared.frame.Resume.TheVariants as left
use Rattle.ti_exec.proofs.Begun.{went_out, copy_done, copy_went, copy_stops}
use Rattle.ti_exec.proofs.Works.{of_result}
use Rattle.ti_exec.proofs.process.TreeMachine.copy_next.Goals as goal

pub returns-in-Ok : goal.returns-in-Ok
returns-in-Ok c =
    let p = program_of c.args.program.now in
    copy_went p c.args.self.now c.complete_with.new.self c.args.copy c.args.last c.in-Some.p _ _ _ _ c.requires
    (rw c.deref.ensures at c.in-Some.ensures.value) c.current_stmt.ensures c.member_place-at.ensures c.deref-in-Some.ensures.value
    (rw c.deref.ensures at c.in-Ok.ensures) (c.complete_with.ensures p)

pub returns-in-Err : goal.returns-in-Err
returns-in-Err c =
    let p = program_of c.args.program.now in
    let w = c.args.self.now in
    of_result c.stops.result _ _
    (λ r h. copy_stops p w _ c.args.copy c.args.last c.in-Some.p _ _ _ c.in-Err.stop r c.requires
    (rw c.deref.ensures at c.in-Some.ensures.value) c.current_stmt.ensures c.member_place-at.ensures c.deref-in-Some.ensures.value
    (rw c.deref.ensures at c.in-Err.ensures) (h p)) c.stops.ensures

pub returns-in-None : goal.returns-in-None
returns-in-None c =
    let p = program_of c.args.program.now in
    went_out p c.args.self.now c.complete_with-in-None.new.self (left.Copying c.args.copy c.args.last) _
    (copy_done p c.args.self.now c.args.copy c.args.last c.requires (rw c.deref.ensures at c.in-None.ensures.value))
    (c.complete_with-in-None.ensures p)
