use Rattle.std.proofs.Common.{sym, subst, IfOk, Some}
use Rattle.ti_code.specs.declared.instr.Instr.{Instr}
use Rattle.ti_code.specs.declared.instr.Instr.TheVariants as i
use Rattle.ti_code.specs.Programs.{Code}
use Rattle.ti_code.specs.Machine as seen
use Rattle.ti_machine.specs.Mirrors.FrameStates.{local_state_of}
use Rattle.ti_machine.specs.Mirrors.Machines.{machine_of, frame_at, below_of, IsStepResult}
use Rattle.ti_machine.specs.declared.machine.StepResult.{StepResult}
use Rattle.ti_machine.proofs.Withins.{ok_at}
use Rattle.ti_machine.proofs.machine.Machine.act.Goals as goal

pub returns-in-Arrive : goal.returns-in-Arrive
returns-in-Arrive c =
    let m = c.args.self.now in
    let p = c.args.code.now in
    let n = c.arrive.new.self in
    subst (λ (x : Instr). IfOk c.arrive.result (λ t. IsStepResult p (seen.execute p (machine_of p m) (frame_at p m (local_state_of m.top.state)) (below_of p m) (Some x)) t (machine_of p n))) (sym c.in-Arrive.is)
    (ok_at c.arrive.result (λ (t : StepResult) (q : Code). IsStepResult q (seen.execute q (machine_of q m) (frame_at q m (local_state_of m.top.state))
    (below_of q m) (Some (i.Arrive c.in-Arrive.kind c.in-Arrive.at))) t (machine_of q n)) c.arrive.ensures p)
