use Rattle.std.proofs.Common.{FitsSigned, ◌≤ℤ◌, ◌<ℤ◌, to_z, of_z, refl, sym, subst, rules}
use Rattle.std.proofs.lemmas.Int.{to_z-of_z}
use Rattle.std.specs.Int.{w32, w64}
use Rattle.ti_base.specs.Ranges.{Range}
use Rattle.ti_rect.specs.Axes.{range}
use Rattle.ti_rect.proofs.PartLaws.{stretched}
use Rattle.ti_rect.proofs.ReadBack.{back_order, below, from_most, from_not_most, passed, widened}
use Rattle.ti_rect.proofs.RectLaws.{none_here}
use Rattle.ti_rect.proofs.parts.stretch.Goals as goal

pub returns-then-to-from-clause-same : goal.returns-then-to-from-clause-same
returns-then-to-from-clause-same c = λ x.
    let low = c.args.low in
    let to = c.args.to in
    let at : to ≤ℤ low = subst (λ y. to ≤ℤ y) (widened low c.from.result c.ranges.low c.from.ensures)
    (subst (λ y. y ≤ℤ to_z w64 (of_z w64 c.from.result)) (to_z-of_z w64 to c.ranges.to) (from_most _ _ c.if-to-from.true)) in
    (λ o. absurd (none_here x o), λ k. absurd (passed to low at (below low x to k.1 k.2)))

pub range_up_to-requires-clause-some : goal.range_up_to-requires-clause-some
range_up_to-requires-clause-some c =
    let low = c.args.low in
    let high : FitsSigned w32 c.args.axis.high = search rules in
    let top : FitsSigned w32 c.last_below-high.result = search rules in
    back_order low c.last_below-high.result c.ranges.low top
    (c.last_below-high.ensures.reached low (subst (λ y. low ≤ℤ y) (sym (to_z-of_z w32 c.args.axis.high high)) c.requires.on.within)
    (subst (λ y. y <ℤ to_z w64 (of_z w64 c.args.to)) (widened low c.from.result c.ranges.low c.from.ensures) (from_not_most _ _ c.if-to-from.false)))

pub returns-clause-same : goal.returns-clause-same
returns-clause-same c = λ x.
    let low = c.args.low in
    let high = c.args.axis.high in
    let to = c.args.to in
    let top = c.last_below-high.result in
    let fits : FitsSigned w32 top = search rules in
    let fits' : FitsSigned w32 high = search rules in
    let back = to_z-of_z w32 top fits in
    let back' = to_z-of_z w32 high fits' in
    let wide = to_z-of_z w64 to c.ranges.to in
    let s : Range = record { low = to_z w32 (of_z w32 low); high = to_z w32 (of_z w32 top); step = c.args.axis.step } in
    let u = c.range_up_to.ensures.same x in
    let t = stretched (range c.args.axis) s low to c.requires.form.forward c.requires.on (to_z-of_z w32 low c.ranges.low) refl
    (subst (λ y. y ≤ℤ high) (sym back) (subst (λ y. top ≤ℤ y) back' c.last_below-high.ensures.first))
    (subst (λ y. y <ℤ to) (sym back) (subst (λ y. top <ℤ y) wide c.last_below-high.ensures.second))
    (λ z h k. subst (λ y. z ≤ℤ y) (sym back) (c.last_below-high.ensures.reached z (subst (λ y. z ≤ℤ y) (sym back') h) (subst (λ y. z <ℤ y) (sym wide) k))) x in
    (λ o. t.0 (u.0 o), λ o. u.1 (t.1 o))
