use Rattle.std.proofs.Common.{◌<◌, ◌≤◌, subst, List, [], IsTrue, arith}
use Rattle.ti_code.specs.declared.code.MethodCode.{MethodCode}
use Rattle.ti_code.specs.Machine.{next_step}
use Rattle.ti_machine.specs.declared.machine.StepResult.{StepResult}
use Rattle.ti_machine.specs.Mirrors.Machines.{machine_of, IsStepResult}
use Rattle.ti_code.specs.JumpRule.{keep_jump_rule}
use Rattle.ti_machine.proofs.Paths.{passes_then, passes_none, passes_one, next_on, next_silently}
use Rattle.ti_machine.proofs.Weights.{turn_falls, silently_lighter, known, weight}
use Rattle.ti_machine.proofs.machine.Machine.run_to_suspension.Goals as goal

pub steps-init : goal.steps-init
steps-init c = record { way = passes_none c.args.code.now (machine_of c.args.code.now c.args.self.now); goes = c.requires.goes }

pub steps-preserved : goal.steps-preserved
steps-preserved c =
    let p = c.args.code.now in
    let o = machine_of p c.args.self.now in
    let m = machine_of p c.run_fast_path-more.new.self in
    let n = machine_of p c.step.new.self in
    let g = c.steps.invariant.goes in
    let e = subst (λ (t : StepResult). IsStepResult p (next_step p m) t n) c.in-Continue.is c.in_ok-step.ensures in
    record {
      way =
          passes_then p o m n c.saturating_add-count.result 1 c.saturating_add-count-in-Continue.result
          (passes_then p o (machine_of p c.steps.self) m c.steps.count c.run_fast_path-more.result c.saturating_add-count.result c.steps.invariant.way c.run_fast_path-more.ensures c.saturating_add-count.ensures)
          (passes_one p m n (known p c.run_fast_path-more.new.self) e) c.saturating_add-count-in-Continue.ensures;
      goes = (g.0, next_on p m n g.0 (e []) (next_silently p g.0 c.run_fast_path-more.ensures.2 g.1));
    }

pub steps-smaller : goal.steps-smaller
steps-smaller c =
    let p = c.args.code.now in
    let m = machine_of p c.run_fast_path-more.new.self in
    let n = machine_of p c.step.new.self in
    let g = c.steps.invariant.goes in
    let e = subst (λ (t : StepResult). IsStepResult p (next_step p m) t n) c.in-Continue.is c.in_ok-step.ensures in
    let rule = subst (λ (ms : List MethodCode). IsTrue (keep_jump_rule ms)) c.methods-rule.ensures.methods c.methods-rule.ensures.rule in
    let less : weight p n < weight p m = turn_falls p rule m n (known p c.run_fast_path-more.new.self) g.0 (next_silently p g.0 c.run_fast_path-more.ensures.2 g.1) (e []) in
    let lighter : weight p m ≤ weight p (machine_of p c.steps.self) = silently_lighter p rule g.0 c.run_fast_path-more.ensures.2 g.1 in
    omega (arith, less, lighter)

pub unreachable-requires : goal.unreachable-requires
unreachable-requires c =
    let p = c.args.code.now in
    let m = machine_of p c.run_fast_path-more.new.self in
    let n = machine_of p c.step.new.self in
    let g = c.steps.invariant.goes in
    let e = subst (λ (t : StepResult). IsStepResult p (next_step p m) t n) c.in-Stuck.is c.in_ok-step.ensures in
    e.2 g.0 (next_on p m e.0 g.0 e.1 (next_silently p g.0 c.run_fast_path-more.ensures.2 g.1))

pub returns-in-Suspend : goal.returns-in-Suspend
returns-in-Suspend c =
    let p = c.args.code.now in
    let o = machine_of p c.args.self.now in
    let m = machine_of p c.run_fast_path-more.new.self in
    let n = machine_of p c.step.new.self in
    let way = passes_then p o (machine_of p c.steps.self) m c.steps.count c.run_fast_path-more.result c.saturating_add-count.result c.steps.invariant.way c.run_fast_path-more.ensures c.saturating_add-count.ensures in
    record {
      number = way.0;
      there = m;
      silently = way.2;
      count_is = way.1;
      stood = subst (λ (t : StepResult). IsStepResult p (next_step p m) t n) c.in-Suspend.is c.in_ok-step.ensures;
    }
