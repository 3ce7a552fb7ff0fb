use Rattle.ti_lang.specs.Program.Views.{program_of}
use Rattle.ti_exec.proofs.Begun.{decided, undecided, condition_got, goes_before}
use Rattle.ti_exec.proofs.Works.{step_in, of_result}
use Rattle.ti_exec.proofs.process.TreeMachine.begin_iteration.Goals as goal

pub returns-in-Ok : goal.returns-in-Ok
returns-in-Ok c =
    let p = program_of c.args.program.now in
    step_in p _ _ _ _ _ (decided p c.args.self.now c.in-Ok.again c.requires c.in-Ok.ensures) c.iterate_or_leave.ensures

pub returns-in-Err : goal.returns-in-Err
returns-in-Err c =
    let p = program_of c.args.program.now in
    let w = c.args.self.now in
    of_result c.stops.result _ _ (λ r h. undecided p w _ c.in-Err.stop r c.requires c.in-Err.ensures (h p (condition_got p w) (goes_before p w))) c.stops.ensures
