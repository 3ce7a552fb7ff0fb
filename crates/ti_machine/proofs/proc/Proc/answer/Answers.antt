use Rattle.std.proofs.Common.{◌≡◌, ◌∙◌, sym, ap, subst, true, false, [], ◌∷◌, ◌++◌}
use Rattle.ti_machine.specs.Mirrors.Machines.{machine_of}
use Rattle.ti_machine.specs.Mirrors.Proc.{proc_view_of, awaits_answer_in, Agrees, HasReached}
use Rattle.ti_machine.specs.ProcView.{ProcView, is_act, HasFinished}
use Rattle.ti_machine.proofs.Paths.{reached_answer, finished_answer}
use Rattle.ti_machine.proofs.proc.Proc.answer.Goals as goal

pub invariant_of-self : goal.invariant_of-self
invariant_of-self c =
    let t = c.self.inside in
    let s = proc_view_of t in
    let n = c.in-Suspended.field-0 in
    let w = c.in-Suspended.answer_use in
    let k = c.saturating_add-self-inside.result in
    let act : is_act n ≡ true = sym (ap awaits_answer_in c.in-Suspended.is) ∙ (ap (λ (u : ProcView). u.asks) c.self.view_is ∙ c.requires.asks) in
    let a = subst (Agrees s t.steps t.machine) c.in-Suspended.is c.self.invariant.agrees in
    let m = machine_of s.code t.machine in
    record {
      finished = subst (λ (u : ProcView). HasFinished (record u { asks = false }) k) (sym c.and-self-inside.ensures)
          (finished_answer s t.steps k a.0 m n w c.args.answer false a.1 a.2 act c.saturating_add-self-inside.ensures);
      agrees = subst (λ (u : ProcView). HasReached (record u { asks = false }) k (machine_of u.code c.resume_with.new.self)) (sym c.and-self-inside.ensures)
          (subst (λ x. HasReached (record s { answers = s.answers ++ c.args.answer ∷ []; asks = false }) k x) (sym (c.resume_with.ensures s.code))
          (reached_answer s t.steps k a.0 m n w c.args.answer false a.1 a.2 act c.saturating_add-self-inside.ensures));
    }
