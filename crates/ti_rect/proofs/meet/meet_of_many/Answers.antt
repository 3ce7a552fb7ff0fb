use Rattle.std.proofs.Common.{◌≡◌, ◌↔◌, ℤ, pos, to_z, of_z, FitsSigned, ◌+ℤ◌, ◌≤ℤ◌, refl, sym, subst, arith, rules}
use Rattle.std.proofs.lemmas.Int.{ints, to_z-of_z}
use Rattle.std.specs.Int.{w32}
use Rattle.ti_base.specs.Ranges.{IsOn}
use Rattle.ti_rect.specs.Axes.{range}
use Rattle.ti_rect.proofs.AxisLaws.{same_range}
use Rattle.ti_rect.proofs.MeetLaws.{on_both, from_both}
use Rattle.ti_rect.proofs.ReadBack.{at_most, back_order, span_of, wide_bound, wide_order}
use Rattle.ti_rect.proofs.meet.meet_of_many.Goals as goal

pub returns-clause-form : goal.returns-clause-form
returns-clause-form c = c.range_up_to.ensures.form

pub returns-clause-same : goal.returns-clause-same
returns-clause-same c = λ x.
    let r = range c.args.left in
    let s = range c.args.right in
    let step = c.distance-step.result in
    let top = c.least.result in
    let fits : FitsSigned w32 top = search rules in
    let a_high = to_z-of_z w32 r.high (search rules) in
    let b_high = to_z-of_z w32 s.high (search rules) in
    let same = same_range (record { low = to_z w32 (of_z w32 c.args.first); high = to_z w32 (of_z w32 top); step = step })
    (record { low = c.args.first; high = top; step = step }) (to_z-of_z w32 c.args.first c.ranges.first)
    (to_z-of_z w32 top fits) refl in
    let u = subst (λ q. IsOn (range c.range_up_to.result) x ↔ IsOn q x) same (c.range_up_to.ensures.same x) in
    let at : c.args.second ≡ c.args.first +ℤ pos step = omega (arith, ints) in
    let below : top ≤ℤ r.high = subst (λ h. top ≤ℤ h) a_high c.least.ensures.first in
    let below' : top ≤ℤ s.high = subst (λ h. top ≤ℤ h) b_high c.least.ensures.second in
    let reached : (z : ℤ) → z ≤ℤ r.high → z ≤ℤ s.high → z ≤ℤ top = λ z h k. c.least.ensures.reached z (subst (λ q. z ≤ℤ q) (sym a_high) h) (subst (λ q. z ≤ℤ q) (sym b_high) k) in (
      λ o. on_both r s c.args.first c.args.second top step c.requires.first.forward c.requires.second.forward c.requires.least.on
          c.requires.least.least c.requires.next at below below' reached x (u.0 o),
      λ o. u.1 (from_both r s c.args.first c.args.second top step c.requires.first.forward c.requires.second.forward c.requires.least.on
          c.requires.least.least c.requires.next at below below' reached x o),
    )

pub distance-step-requires-clause-order : goal.distance-step-requires-clause-order
distance-step-requires-clause-order c =
    wide_order c.args.first c.args.second c.from.result c.ranges.first c.ranges.second (at_most c.args.first c.args.second c.requires.next.above) c.from.ensures

pub distance-step-requires-clause-bound : goal.distance-step-requires-clause-bound
distance-step-requires-clause-bound c = wide_bound c.args.second c.from.result c.ranges.second c.from.ensures

pub range_up_to-requires-clause-forward : goal.range_up_to-requires-clause-forward
range_up_to-requires-clause-forward c = let a = c.requires.next.above in omega (arith, ints)

pub range_up_to-requires-clause-some : goal.range_up_to-requires-clause-some
range_up_to-requires-clause-some c =
    let on = c.requires.least.on in
    let top = c.least.result in
    let fits : FitsSigned w32 top = search rules in
    let a_high = to_z-of_z w32 c.args.left.high (search rules) in
    let b_high = to_z-of_z w32 c.args.right.high (search rules) in
    back_order c.args.first top c.ranges.first fits
    (c.least.ensures.reached c.args.first (subst (λ q. c.args.first ≤ℤ q) (sym a_high) on.0.within) (subst (λ q. c.args.first ≤ℤ q) (sym b_high) on.1.within))
