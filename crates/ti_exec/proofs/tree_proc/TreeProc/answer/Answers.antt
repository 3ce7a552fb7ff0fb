use Rattle.std.proofs.Common.{◌≡◌, ◌∙◌, false, sym, subst}
use Rattle.ti_lang.specs.Program.Views.{program_of}
use Rattle.ti_exec.specs.declared.process.PendingRequest.{PendingRequest}
use Rattle.ti_exec.specs.States.{process_of, after_answer}
use Rattle.ti_exec.specs.Standing.{TreeProcView, IsAfterAnswer}
use Rattle.ti_exec.specs.Mirrors.RunLoop.{asks_in}
use Rattle.ti_exec.specs.Mirrors.TreeProc.{view_in, CorrespondsTo, AgreesWithTree}
use Rattle.ti_exec.proofs.Standings.{tick_left, behind, is_answered}
use Rattle.ti_exec.proofs.tree_proc.TreeProc.answer.Goals as goal

pub resume_with-requires-clause-tick : goal.resume_with-requires-clause-tick
resume_with-requires-clause-tick c =
    let t = c.self.inside in
    let s = view_in t in
    let a = subst (AgreesWithTree s t.machine) (sym c.replace.ensures.value ∙ c.in-Suspended.is) c.self.invariant in
    tick_left s t.machine c.in-Suspended.asking.value.on_answer a.0 a.1

pub invariant_of-self : goal.invariant_of-self
invariant_of-self c =
    let t = c.self.inside in
    let s = view_in t in
    let p = program_of s.program in
    let v = c.resume_with.new.self in
    let now = c.and-self-inside.result in
    let a = subst (AgreesWithTree s t.machine) (sym c.replace.ensures.value ∙ c.in-Suspended.is) c.self.invariant in
    let q = c.in-Suspended.asking.value.on_answer in
    let e : process_of p v ≡ after_answer p t.machine q c.args.answer =
    subst (λ (x : PendingRequest). process_of p v ≡ after_answer p t.machine x.on_answer c.args.answer) c.into_inner-on_answer.ensures
    (subst (λ r. process_of p v ≡ after_answer p t.machine c.into_inner-on_answer.result.on_answer r) c.of.ensures (c.resume_with.ensures p)) in
    subst (λ st. AgreesWithTree (record now.standing { asks = asks_in st }) v st) (sym c.replace.ensures.after)
    (subst (λ (u : TreeProcView). CorrespondsTo (record u { asks = false }) v) (sym c.and-self-inside.ensures) (behind s t.machine v q c.args.answer false a.0 a.1 e))

pub returns-clause-answered : goal.returns-clause-answered
returns-clause-answered c =
    let t = c.self.inside in
    let s = view_in t in
    let b = asks_in c.replace.new.dest in
    let now = c.and-self-inside.result in
    let a = subst (AgreesWithTree s t.machine) (sym c.replace.ensures.value ∙ c.in-Suspended.is) c.self.invariant in
    subst (λ (u : TreeProcView). IsAfterAnswer u c.args.answer (record now.standing { asks = b })) c.self.view_is
    (subst (λ (u : TreeProcView). IsAfterAnswer s c.args.answer (record u { asks = b })) (sym c.and-self-inside.ensures) (is_answered s t.machine c.in-Suspended.asking.value.on_answer c.args.answer b a.0 a.1))
