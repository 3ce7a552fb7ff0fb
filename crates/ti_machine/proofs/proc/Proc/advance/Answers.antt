use Rattle.std.proofs.Common.{◌≡◌, ◌∙◌, sym, ap, subst, []}
use Rattle.ti_base.specs.declared.entry.Next.{Next}
use Rattle.ti_code.specs.Programs.{Code}
use Rattle.ti_code.specs.Machine.{next_step}
use Rattle.ti_code.specs.Follows.{all}
use Rattle.ti_code.specs.Follows as code
use Rattle.ti_machine.specs.Mirrors.Machines.{machine_of, IsSuspendedAt}
use Rattle.ti_machine.specs.Mirrors.RunLoop.{IsSuspension}
use Rattle.ti_machine.specs.Mirrors.Proc.{proc_view_of, Agrees}
use Rattle.ti_machine.specs.ProcView.{ProcView, is_act, HasNext, CanAdvance}
use Rattle.ti_machine.proofs.Paths.{goes_from, stood_next, reached_on, reached_asks}
use Rattle.ti_machine.proofs.proc.Proc.advance.Goals as goal

pub returns-in-Suspended-clause-next : goal.returns-in-Suspended-clause-next
returns-in-Suspended-clause-next c =
    let t = c.self.inside in
    let s = proc_view_of t in
    let a = subst (Agrees s t.steps t.machine) c.in-Suspended.is c.self.invariant.agrees in
    subst (λ (u : ProcView). HasNext u c.in-Suspended.next) c.self.view_is (stood_next s t.steps a.0 (machine_of s.code t.machine) c.in-Suspended.next c.in-Suspended.field-1 a.1 a.2)

pub run_to_suspension-requires : goal.run_to_suspension-requires
run_to_suspension-requires c =
    let t = c.self.inside in
    let s = proc_view_of t in
    let same : c.args.code.now ≡ s.code = c.requires.code ∙ ap (λ (u : ProcView). u.code) (sym c.self.view_is) in
    let a = subst (Agrees s t.steps t.machine) c.in-Running.is c.self.invariant.agrees in
    record {
      goes = subst (λ (p : Code). (n : Next) × code.HasNext p (machine_of p t.machine) [] n) (sym same)
          (goes_from s t.steps (machine_of s.code t.machine) a (subst CanAdvance (sym c.self.view_is) c.requires.goes));
    }

pub invariant_of-self-2 : goal.invariant_of-self-2
invariant_of-self-2 c =
    let t = c.self.inside in
    let s = proc_view_of t in
    let n = c.in_ok-suspension.suspension.next in
    let w = c.in_ok-suspension.suspension.answer_use in
    let m = c.make_room.new.self in
    let same : c.args.code.now ≡ s.code = c.requires.code ∙ ap (λ (u : ProcView). u.code) (sym c.self.view_is) in
    let a = subst (Agrees s t.steps t.machine) c.in-Running.is c.self.invariant.agrees in
    let way = subst (λ (p : Code). IsSuspension p (machine_of p t.machine) c.in_ok-suspension.suspension (machine_of p c.run_to_suspension.new.self)) same c.in_ok-suspension.ensures in
    let on = reached_on s t.steps c.in_ok-suspension.suspension.count c.saturating_add-self-inside.result
    (machine_of s.code t.machine) way.there way.number a way.silently way.count_is c.saturating_add-self-inside.ensures in
    record {
      finished = c.self.invariant.finished;
      agrees = (
        way.there,
        reached_asks s (is_act n) c.saturating_add-self-inside.result way.there on,
        subst (IsSuspendedAt (next_step s.code way.there) n w) (sym (c.in_ok-make_room.ensures.same s.code)) way.stood,
        c.in_ok-make_room.ensures.room,
      );
    }

pub returns-clause-next : goal.returns-clause-next
returns-clause-next c =
    let t = c.self.inside in
    let s = proc_view_of t in
    let n = c.in_ok-suspension.suspension.next in
    let w = c.in_ok-suspension.suspension.answer_use in
    let same : c.args.code.now ≡ s.code = c.requires.code ∙ ap (λ (u : ProcView). u.code) (sym c.self.view_is) in
    let a = subst (Agrees s t.steps t.machine) c.in-Running.is c.self.invariant.agrees in
    let way = subst (λ (p : Code). IsSuspension p (machine_of p t.machine) c.in_ok-suspension.suspension (machine_of p c.run_to_suspension.new.self)) same c.in_ok-suspension.ensures in
    let on = reached_on s t.steps c.in_ok-suspension.suspension.count c.saturating_add-self-inside.result
    (machine_of s.code t.machine) way.there way.number a way.silently way.count_is c.saturating_add-self-inside.ensures in
    subst (λ (u : ProcView). HasNext u n) c.self.view_is (stood_next s c.saturating_add-self-inside.result way.there (machine_of s.code c.run_to_suspension.new.self) n w on way.stood)
