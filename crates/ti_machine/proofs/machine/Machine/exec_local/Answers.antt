use Rattle.std.proofs.Common.{◌∙◌, sym, ap, subst, map, Some, Err}
use Rattle.ti_lang.specs.Meaning.Comp.{Comp}
use Rattle.ti_code.specs.Programs.{Code}
use Rattle.ti_code.specs.Effects.{LocalState, effect}
use Rattle.ti_code.specs.Machine as seen
use Rattle.ti_code.specs.Machine.{next_step, first}
use Rattle.ti_machine.specs.declared.machine.StepResult.{StepResult}
use Rattle.ti_machine.specs.Mirrors.FrameStates.{local_state_of, FrameOutcome}
use Rattle.ti_machine.specs.Mirrors.Machines.{machine_of, machine_at, frame_at, below_of, IsStepResult}
use Rattle.ti_machine.proofs.Withins.{done_stays, within_went, ok_map}
use Rattle.ti_machine.proofs.machine.Machine.exec_local.Goals as goal

pub returns-in-Ok : goal.returns-in-Ok
returns-in-Ok c p rs =
    let m = c.args.self.now in
    let s = local_state_of m.top.state in
    let x = c.args.instr.now in
    let q = machine_of p m in
    ap (λ e. e rs) (done_stays p q (frame_at p m s) (below_of p m) x c.requires.stays)
    ∙ within_went q (frame_at p m s) (below_of p m) (effect (seen.who_of p q) x s) (local_state_of c.perform.new.self) (c.in-Ok.ensures (map seen.receiver_depth p.methods)) rs

pub returns-in-Err : goal.returns-in-Err
returns-in-Err c =
    let m = c.args.self.now in
    let s = local_state_of m.top.state in
    let x = c.args.instr.now in
    let d = c.perform.new.self in
    let n = record m { top = record m.top { state = d } } in
    ok_map c.suspend_or_fault.result
    (λ t. (p : Code) (u : LocalState) (e : Comp LocalState) → FrameOutcome {A = Unit {0}} (Err c.in-Err.stop) c.answer_use.result e (local_state_of d)
    → IsStepResult p (seen.exec_local (machine_at p n u) (frame_at p n u) (below_of p n) e) t (machine_of p n))
    (λ t. (p : Code) → IsStepResult p (seen.execute p (machine_of p m) (frame_at p m s) (below_of p m) (Some x)) t (machine_of p n))
    (λ (t : StepResult). λ h. λ (p : Code).
    let e = effect (seen.who_of p (machine_of p m)) x s in
    subst (λ (g : Comp seen.StepResult). IsStepResult p g t (machine_of p n)) (sym (done_stays p (machine_of p m) (frame_at p m s) (below_of p m) x c.requires.stays))
    (h p s e (subst (λ y. FrameOutcome {A = Unit {0}} (Err c.in-Err.stop) y e (local_state_of d)) (sym c.answer_use.ensures) (c.in-Err.ensures (map seen.receiver_depth p.methods)))))
    c.suspend_or_fault.ensures
