use Rattle.std.proofs.Common.{FitsSigned, ◌≡◌, ◌↔◌, ◌*◌, pos, ◌+ℤ◌, ◌≤ℤ◌, to_z, of_z, refl, sym, ◌∙◌, subst, rules}
use Rattle.std.proofs.lemmas.Int.{to_z-of_z}
use Rattle.std.specs.Int.{w32}
use Rattle.ti_base.specs.Ranges.{IsOn}
use Rattle.ti_rect.specs.Axes.{range}
use Rattle.ti_rect.specs.Parts.{residue_of}
use Rattle.ti_rect.proofs.AxisLaws.{same_range}
use Rattle.ti_rect.proofs.ReadBack.{back_order}
use Rattle.ti_rect.proofs.parts.residue.Goals as goal

pub range_up_to-requires-clause-some : goal.range_up_to-requires-clause-some
range_up_to-requires-clause-some c =
    let low : FitsSigned w32 c.args.cut.low = search rules in
    let high : FitsSigned w32 c.args.cut.high = search rules in
    let first : FitsSigned w32 c.nth_above-low.result = search rules in
    let at : c.nth_above-low.result ≡ c.args.cut.low +ℤ pos (c.args.offset * c.args.axis.step) =
    c.nth_above-low.ensures ∙ (λ i. to_z-of_z w32 c.args.cut.low low i +ℤ pos (c.from.ensures i * c.args.axis.step)) in
    back_order c.nth_above-low.result c.args.cut.high first high (subst (λ z. z ≤ℤ c.args.cut.high) (sym at) c.requires.room)

pub returns-clause-same : goal.returns-clause-same
returns-clause-same c = λ x.
    let low : FitsSigned w32 c.args.cut.low = search rules in
    let high : FitsSigned w32 c.args.cut.high = search rules in
    let first : FitsSigned w32 c.nth_above-low.result = search rules in
    let at : c.nth_above-low.result ≡ c.args.cut.low +ℤ pos (c.args.offset * c.args.axis.step) =
    c.nth_above-low.ensures ∙ (λ i. to_z-of_z w32 c.args.cut.low low i +ℤ pos (c.from.ensures i * c.args.axis.step)) in
    let same = same_range (record { low = to_z w32 (of_z w32 c.nth_above-low.result); high = to_z w32 (of_z w32 c.args.cut.high); step = c.args.cut.step })
    (residue_of (range c.args.axis) (range c.args.cut) c.args.offset) (to_z-of_z w32 c.nth_above-low.result first ∙ at) (to_z-of_z w32 c.args.cut.high high) refl in
    subst (λ q. IsOn (range c.range_up_to.result) x ↔ IsOn q x) same (c.range_up_to.ensures.same x)
