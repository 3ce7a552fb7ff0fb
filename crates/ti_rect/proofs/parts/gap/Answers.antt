use Rattle.std.proofs.Common.{FitsSigned, ◌↔◌, ◌+◌, ◌*◌, pos, ◌+ℤ◌, to_z, of_z, ap, ◌∙◌, subst, rules}
use Rattle.std.proofs.lemmas.Int.{to_z-of_z}
use Rattle.std.specs.Int.{w32, w64}
use Rattle.ti_base.specs.Ranges.{IsOn}
use Rattle.ti_rect.specs.Axes.{range}
use Rattle.ti_rect.specs.Parts.{IsBetween}
use Rattle.ti_rect.proofs.ReadBack.{widened}
use Rattle.ti_rect.proofs.parts.gap.Goals as goal

pub returns-clause-same : goal.returns-clause-same
returns-clause-same c = λ x.
    let a = range c.args.axis in
    let s = range c.range_between.result in
    let low = c.args.cut.low in
    let step = c.args.cut.step in
    let t = c.args.index in
    let fits : FitsSigned w32 low = search rules in
    let fits_here : FitsSigned w32 c.nth_above-here.result = search rules in
    let fits_next : FitsSigned w32 c.nth_above-next.result = search rules in
    let here = widened c.nth_above-here.result c.from.result fits_here c.from.ensures ∙ c.nth_above-here.ensures ∙ ap (λ z. z +ℤ pos (t * step)) (to_z-of_z w32 low fits) in
    let next = widened c.nth_above-next.result c.from-2.result fits_next c.from-2.ensures ∙ c.nth_above-next.ensures ∙ ap (λ z. z +ℤ pos ((t + 1) * step)) (to_z-of_z w32 low fits) in
    subst (λ y. IsOn s x ↔ IsBetween a y (low +ℤ pos ((t + 1) * step)) x) here
    (subst (λ z. IsOn s x ↔ IsBetween a (to_z w64 (of_z w64 c.from.result)) z x) next (c.range_between.ensures.same x))
