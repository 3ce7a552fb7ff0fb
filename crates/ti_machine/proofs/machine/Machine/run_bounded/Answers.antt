use Rattle.std.proofs.Common.{inl, inr, subst, arith}
use Rattle.ti_code.specs.Machine.{next_step}
use Rattle.ti_machine.specs.declared.machine.StepResult.{StepResult}
use Rattle.ti_machine.specs.Mirrors.Machines.{machine_of, IsStepResult}
use Rattle.ti_machine.proofs.Paths.{passes_then, passes_none, passes_one, nothing_next}
use Rattle.ti_machine.proofs.Weights.{known}
use Rattle.ti_machine.proofs.machine.Machine.run_bounded.Goals as goal

pub loop-next_step-init : goal.loop-next_step-init
loop-next_step-init c = record { way = passes_none c.args.code.now (machine_of c.args.code.now c.args.self.now); many = omega arith }

pub loop-next_step-preserved : goal.loop-next_step-preserved
loop-next_step-preserved c =
    let p = c.args.code.now in
    let o = machine_of p c.args.self.now in
    let m = machine_of p c.run_fast_path-more.new.self in
    let n = machine_of p c.step.new.self in
    let e = subst (λ (t : StepResult). IsStepResult p (next_step p m) t n) c.in-Continue.is c.in_ok-step.ensures in
    record {
      way =
          passes_then p o m n c.saturating_add-count.result 1 c.saturating_add-count-in-Continue.result
          (passes_then p o (machine_of p c.loop-next_step.self) m c.loop-next_step.count c.run_fast_path-more.result c.saturating_add-count.result c.loop-next_step.invariant.way c.run_fast_path-more.ensures c.saturating_add-count.ensures)
          (passes_one p m n (known p c.run_fast_path-more.new.self) e) c.saturating_add-count-in-Continue.ensures;
      many = omega (arith, c.loop-next_step.invariant.many, c.saturating_add-count.ensures, c.saturating_add-count-in-Continue.ensures);
    }

pub returns-in-Suspend-clause-way : goal.returns-in-Suspend-clause-way
returns-in-Suspend-clause-way c =
    let p = c.args.code.now in
    let o = machine_of p c.args.self.now in
    let m = machine_of p c.run_fast_path-more.new.self in
    let n = machine_of p c.step.new.self in
    let way = passes_then p o (machine_of p c.loop-next_step.self) m c.loop-next_step.count c.run_fast_path-more.result c.saturating_add-count.result c.loop-next_step.invariant.way c.run_fast_path-more.ensures c.saturating_add-count.ensures in
    record {
      number = way.0;
      there = m;
      silently = way.2;
      count_is = way.1;
      stood = subst (λ (t : StepResult). IsStepResult p (next_step p m) t n) c.in-Suspend.is c.in_ok-step.ensures;
    }

pub returns-then-count-from-clause-far : goal.returns-then-count-from-clause-far
returns-then-count-from-clause-far c =
    let p = c.args.code.now in
    let o = machine_of p c.args.self.now in
    let m = machine_of p c.run_fast_path-more.new.self in
    let way = passes_then p o (machine_of p c.loop-next_step.self) m c.loop-next_step.count c.run_fast_path-more.result c.saturating_add-count.result c.loop-next_step.invariant.way c.run_fast_path-more.ensures c.saturating_add-count.ensures in
    inl (way.0, m, omega (arith, way.1), way.2)

pub returns-in-Stuck-clause-far : goal.returns-in-Stuck-clause-far
returns-in-Stuck-clause-far c =
    let p = c.args.code.now in
    let o = machine_of p c.args.self.now in
    let m = machine_of p c.run_fast_path-more.new.self in
    let way = passes_then p o (machine_of p c.loop-next_step.self) m c.loop-next_step.count c.run_fast_path-more.result c.saturating_add-count.result c.loop-next_step.invariant.way c.run_fast_path-more.ensures c.saturating_add-count.ensures in
    let e = subst (λ (t : StepResult). IsStepResult p (next_step p m) t (machine_of p c.step.new.self)) c.in-Stuck.is c.in_ok-step.ensures in
    inr (nothing_next p {m = o} {o = m} e.0 way.2 e.1 e.2)
