use Rattle.std.proofs.Common.{◌≡◌, ◌∙◌, ◌<◌, sym, ap, subst, vec_len, vec_capacity, arith}
use Rattle.ti_lang.specs.declared.program.numbered.Program.{Program}
use Rattle.ti_lang.specs.Program.Views.{program_of}
use Rattle.ti_exec.specs.Standing.{TreeProcView, HasNext}
use Rattle.ti_exec.specs.Mirrors.RunLoop.{RunsToNext}
use Rattle.ti_exec.specs.Mirrors.TreeProc.{view_in, AgreesWithTree}
use Rattle.ti_exec.proofs.Standings.{unspent, has_next, agrees}
use Rattle.ti_exec.proofs.tree_proc.TreeProc.advance.Goals as goal

pub invariant_of-self-2 : goal.invariant_of-self-2
invariant_of-self-2 c =
    let t = c.self.inside in
    let s = view_in t in
    let same : program_of c.program.result.now.parts ≡ program_of s.program =
    ap (λ (q : Program). program_of q.parts) c.program.ensures.program ∙ c.requires ∙ ap (λ (u : TreeProcView). program_of u.program) (sym c.self.view_is) in
    let goes = subst (λ p. RunsToNext p t.machine c.in_ok-next.next c.in_ok-next.state c.run_to_suspension.new.self) same c.in_ok-next.ensures in
    let room : vec_len c.reserve.new.self < vec_capacity c.reserve.new.self = omega (arith, c.in_ok-reserve.ensures.ok) in
    let follows = unspent s t.machine t.state c.self.invariant (sym c.is_poisoned.ensures ∙ c.if-is_poisoned.false) in
    subst (λ st. AgreesWithTree (view_in (record t { state = st })) (record c.run_to_suspension.new.self { answers = c.reserve.new.self }) st) (sym c.set-2.ensures)
    (agrees s t.machine c.run_to_suspension.new.self c.reserve.new.self c.in_ok-next.next c.in_ok-next.state c.reserve.ensures.items room follows goes)

pub returns-clause-next : goal.returns-clause-next
returns-clause-next c =
    let t = c.self.inside in
    let s = view_in t in
    let same : program_of c.program.result.now.parts ≡ program_of s.program =
    ap (λ (q : Program). program_of q.parts) c.program.ensures.program ∙ c.requires ∙ ap (λ (u : TreeProcView). program_of u.program) (sym c.self.view_is) in
    let goes = subst (λ p. RunsToNext p t.machine c.in_ok-next.next c.in_ok-next.state c.run_to_suspension.new.self) same c.in_ok-next.ensures in
    let follows = unspent s t.machine t.state c.self.invariant (sym c.is_poisoned.ensures ∙ c.if-is_poisoned.false) in
    subst (λ (u : TreeProcView). HasNext u c.in_ok-next.next) c.self.view_is (has_next s t.machine c.run_to_suspension.new.self c.in_ok-next.next c.in_ok-next.state follows goes)
