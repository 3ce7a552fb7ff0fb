use Rattle.std.proofs.Common.{subst, Err}
use Rattle.ti_code.specs.Machine as seen
use Rattle.ti_code.specs.Machine.{next_step, first}
use Rattle.ti_eval.specs.declared.interrupt.Interrupt.{Interrupt}
use Rattle.ti_machine.specs.Mirrors.FrameStates.{local_state_of, FrameOutcome}
use Rattle.ti_machine.specs.Mirrors.Machines.{machine_at, frame_at, below_of}
use Rattle.ti_machine.proofs.Withins.{within_asks}
use Rattle.ti_machine.proofs.machine.Machine.suspend_or_fault.Goals as goal

pub returns-in-Request : goal.returns-in-Request
returns-in-Request c p s e made =
    let m = c.args.self.now in
    let t = local_state_of m.top.state in
    let x = subst (λ (y : Interrupt). FrameOutcome {A = Unit {0}} (Err y) c.args.answer_use e t) c.in-Request.is made in
    c.request.ensures p (seen.exec_local (machine_at p m s) (frame_at p m s) (below_of p m) e)
    (within_asks (machine_at p m s) (frame_at p m s) (below_of p m) e c.in-Request.at c.in-Request.action c.args.answer_use t x.0 x.1)
