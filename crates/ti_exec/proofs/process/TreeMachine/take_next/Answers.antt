use Rattle.ti_lang.specs.Program.Views.{program_of}
use Rattle.ti_eval.specs.declared.frame.Resume.TheVariants as left
use Rattle.ti_exec.proofs.Begun.{went_out, take_done, take_went, take_stops}
use Rattle.ti_exec.proofs.Works.{of_result}
use Rattle.ti_exec.proofs.process.TreeMachine.take_next.Goals as goal

pub returns-then-next-self : goal.returns-then-next-self
returns-then-next-self c =
    let p = program_of c.args.program.now in
    went_out p c.args.self.now c.complete_with.new.self (left.Taking c.args.grid c.args.next) _ (take_done p c.args.self.now c.args.grid c.args.next c.requires c.if-next-self.true) (c.complete_with.ensures p)

pub returns-in-Ok : goal.returns-in-Ok
returns-in-Ok c =
    let p = program_of c.args.program.now in
    take_went p c.args.self.now c.complete_with-in-Ok.new.self c.args.grid c.args.next _ _ _ _ c.requires c.if-next-self.false c.current_stmt.ensures
    c.member_place-at.ensures c.deref.ensures.value c.in-Ok.ensures (c.complete_with-in-Ok.ensures p)

pub returns-in-Err : goal.returns-in-Err
returns-in-Err c =
    let p = program_of c.args.program.now in
    let w = c.args.self.now in
    of_result c.stops.result _ _
    (λ r h. take_stops p w _ c.args.grid c.args.next _ _ _ c.in-Err.stop r c.requires c.if-next-self.false c.current_stmt.ensures
    c.member_place-at.ensures c.deref.ensures.value c.in-Err.ensures (h p)) c.stops.ensures
