use Rattle.std.proofs.Common.{◌≡◌, ◌∙◌, sym, ap, subst, Option, IfNone, IfSome}
use Rattle.ti_code.specs.Programs.{Code}
use Rattle.ti_code.specs.Machine.{next_step}
use Rattle.ti_machine.specs.Mirrors.Machines.{machine_of, IsSuspendedAt}
use Rattle.ti_machine.specs.declared.run_loop.Suspension.{Suspension}
use Rattle.ti_machine.specs.Mirrors.RunLoop.{IsSuspension, LiesFar}
use Rattle.ti_machine.specs.Mirrors.Proc.{proc_view_of, Agrees}
use Rattle.ti_machine.specs.ProcView.{ProcView, is_act, HasNext, IsFar}
use Rattle.ti_machine.proofs.Paths.{stood_next, reached_on, reached_asks, far_from}
use Rattle.ti_machine.proofs.proc.Proc.advance_bounded.Goals as goal

pub returns-in-Suspended-clause-next : goal.returns-in-Suspended-clause-next
returns-in-Suspended-clause-next c =
    let t = c.self.inside in
    let s = proc_view_of t in
    let a = subst (Agrees s t.steps t.machine) c.in-Suspended.is c.self.invariant.agrees in
    subst (λ (u : ProcView). HasNext u c.in-Suspended.next) c.self.view_is (stood_next s t.steps a.0 (machine_of s.code t.machine) c.in-Suspended.next c.in-Suspended.field-1 a.1 a.2)

pub invariant_of-self-2 : goal.invariant_of-self-2
invariant_of-self-2 c =
    let t = c.self.inside in
    let s = proc_view_of t in
    let n = c.in-Some.suspension.next in
    let w = c.in-Some.suspension.answer_use in
    let m = c.make_room.new.self in
    let same : c.args.code.now ≡ s.code = c.requires.code ∙ ap (λ (u : ProcView). u.code) (sym c.self.view_is) in
    let a = subst (Agrees s t.steps t.machine) c.in-Running.is c.self.invariant.agrees in
    let went = subst (λ (o : Option Suspension). IfSome o (λ w. IsSuspension c.args.code.now (machine_of c.args.code.now t.machine) w
    (machine_of c.args.code.now c.run_bounded.new.self))) c.in-Some.is c.in_ok-went.ensures.way in
    let way = subst (λ (p : Code). IsSuspension p (machine_of p t.machine) c.in-Some.suspension (machine_of p c.run_bounded.new.self)) same went in
    let on = reached_on s t.steps c.in-Some.suspension.count c.saturating_add-self-inside.result
    (machine_of s.code t.machine) way.there way.number a way.silently way.count_is c.saturating_add-self-inside.ensures in
    record {
      finished = c.self.invariant.finished;
      agrees = (
        way.there,
        reached_asks s (is_act n) c.saturating_add-self-inside.result way.there on,
        subst (IsSuspendedAt (next_step s.code way.there) n w) (sym (c.in_ok-make_room.ensures.same s.code)) way.stood,
        c.in_ok-make_room.ensures.room,
      );
    }

pub returns-clause-next : goal.returns-clause-next
returns-clause-next c =
    let t = c.self.inside in
    let s = proc_view_of t in
    let n = c.in-Some.suspension.next in
    let w = c.in-Some.suspension.answer_use in
    let same : c.args.code.now ≡ s.code = c.requires.code ∙ ap (λ (u : ProcView). u.code) (sym c.self.view_is) in
    let a = subst (Agrees s t.steps t.machine) c.in-Running.is c.self.invariant.agrees in
    let went = subst (λ (o : Option Suspension). IfSome o (λ w. IsSuspension c.args.code.now (machine_of c.args.code.now t.machine) w
    (machine_of c.args.code.now c.run_bounded.new.self))) c.in-Some.is c.in_ok-went.ensures.way in
    let way = subst (λ (p : Code). IsSuspension p (machine_of p t.machine) c.in-Some.suspension (machine_of p c.run_bounded.new.self)) same went in
    let on = reached_on s t.steps c.in-Some.suspension.count c.saturating_add-self-inside.result
    (machine_of s.code t.machine) way.there way.number a way.silently way.count_is c.saturating_add-self-inside.ensures in
    subst (λ (u : ProcView). HasNext u n) c.self.view_is (stood_next s c.saturating_add-self-inside.result way.there (machine_of s.code c.run_bounded.new.self) n w on way.stood)

pub returns-in_default-clause-far : goal.returns-in_default-clause-far
returns-in_default-clause-far c =
    let t = c.self.inside in
    let s = proc_view_of t in
    let turns = c.args.turns in
    let same : c.args.code.now ≡ s.code = c.requires.code ∙ ap (λ (u : ProcView). u.code) (sym c.self.view_is) in
    let a = subst (Agrees s t.steps t.machine) c.in-Running.is c.self.invariant.agrees in
    let far = subst (λ (o : Option Suspension). IfNone o (LiesFar c.args.code.now (machine_of c.args.code.now t.machine) turns)) c.in_default.is c.in_ok-went.ensures.far in
    let there = subst (λ (p : Code). LiesFar p (machine_of p t.machine) turns) same far in
    subst (λ (u : ProcView). IsFar u turns) c.self.view_is (far_from s t.steps turns (machine_of s.code t.machine) a there)
