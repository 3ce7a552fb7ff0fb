use Rattle.std.proofs.Common.{◌≡◌, ◌*◌, ◌/◌, inl, inr, refl, sym, ap, ◌∙◌, pos, ◌+ℤ◌, arith, rules}
use Rattle.std.proofs.lemmas.Int.{ints, to_z-of_z}
use Rattle.std.specs.Int.{w32}
use Rattle.ti_rect.proofs.AxisLaws.{until_same, until_fits, form_alone, form_more}
use Rattle.ti_rect.proofs.axis.range_up_to.Goals as goal

pub nth_above-high-requires : goal.nth_above-high-requires
nth_above-high-requires c =
    let at : c.args.top ≡ c.args.low +ℤ pos c.distance.result = omega (arith, ints) in
    until_fits c.args.low c.args.top _ _ c.args.step c.distance.result _ at (to_z-of_z w32 c.args.low c.ranges.low) (to_z-of_z w32 c.args.top c.ranges.top) c.from-2.ensures

pub returns-then-steps-eq0-clause-form : goal.returns-then-steps-eq0-clause-form
returns-then-steps-eq0-clause-form c =
    let none : c.distance.result / c.from-2.result * c.args.step ≡ 0 * c.args.step = ap (λ n. n * c.args.step) c.if-steps-eq0.true in
    form_alone _ _ (omega (arith, ints))

pub returns-then-steps-eq0-clause-same : goal.returns-then-steps-eq0-clause-same
returns-then-steps-eq0-clause-same c =
    let span = c.distance.result in
    let at : c.args.top ≡ c.args.low +ℤ pos span = omega (arith, ints) in
    let high = to_z-of_z w32 c.nth_above-high.result (search rules) ∙ c.nth_above-high.ensures ∙ ap (λ z. z +ℤ pos (span / c.from-2.result * c.args.step)) (to_z-of_z w32 c.args.low c.ranges.low)
    ∙ ap (λ n. c.args.low +ℤ pos (span / n * c.args.step)) c.from-2.ensures in
    until_same _ c.args.low c.args.top c.args.step span c.requires.forward at (to_z-of_z w32 c.args.low c.ranges.low) high
    (inr (refl, ap (λ n. span / n) (sym c.from-2.ensures) ∙ c.if-steps-eq0.true))

pub returns-clause-form : goal.returns-clause-form
returns-clause-form c =
    form_more _ _ c.args.step (c.distance.result / c.from-2.result) c.requires.forward (to_z-of_z w32 c.nth_above-high.result (search rules) ∙ c.nth_above-high.ensures) c.if-steps-eq0.false

pub returns-clause-same : goal.returns-clause-same
returns-clause-same c =
    let span = c.distance.result in
    let at : c.args.top ≡ c.args.low +ℤ pos span = omega (arith, ints) in
    let high = to_z-of_z w32 c.nth_above-high.result (search rules) ∙ c.nth_above-high.ensures ∙ ap (λ z. z +ℤ pos (span / c.from-2.result * c.args.step)) (to_z-of_z w32 c.args.low c.ranges.low)
    ∙ ap (λ n. c.args.low +ℤ pos (span / n * c.args.step)) c.from-2.ensures in
    until_same _ c.args.low c.args.top c.args.step span c.requires.forward at (to_z-of_z w32 c.args.low c.ranges.low) high (inl refl)
