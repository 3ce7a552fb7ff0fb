use Rattle.std.proofs.Common.{◌≡◌, ◌*◌, ◌/◌, pos, ◌+ℤ◌, sym, ap, ◌∙◌, arith}
use Rattle.std.proofs.lemmas.Int.{ints}
use Rattle.ti_rect.proofs.PartLaws.{steps_over}
use Rattle.ti_rect.proofs.parts.step_count.Goals as goal

pub returns-clause-number : goal.returns-clause-number
returns-clause-number c =
    let span = c.distance.result in
    let n = c.requires.steps in
    let d : span ≡ n * c.args.cut.step = let e = c.requires.reached in omega (arith, ints) in
    let q = ap (λ k. span / k) c.from-2.ensures ∙ steps_over span n c.args.cut.step c.requires.forward d in
    c.requires.reached ∙ ap (λ k. c.args.cut.low +ℤ pos (k * c.args.cut.step)) (sym q)
