use Rattle.std.proofs.Common.{FitsSigned, ◌≤ℤ◌, ◌<ℤ◌, to_z, of_z, sym, ap, ◌∙◌, subst, arith, rules}
use Rattle.std.proofs.lemmas.Int.{ints, to_z-of_z}
use Rattle.std.specs.Int.{w32, w64}
use Rattle.std.specs.Int.Signed.{lt_z, le_z}
use Rattle.ti_base.specs.Ranges.{IsNextOn}
use Rattle.ti_rect.specs.Axes.{range}
use Rattle.ti_rect.proofs.AxisLaws.{forward, after_low}
use Rattle.ti_rect.proofs.ReadBack.{not_less, widened, from_less, from_not_less, from_not_most}
use Rattle.ti_rect.proofs.axis.next_above.Goals as goal

pub returns-then-axis : goal.returns-then-axis
returns-then-axis c = λ y o. omega (arith, ints, o.reached, o.within)

pub returns-then-from-number : goal.returns-then-from-number
returns-then-from-number c = λ y o. omega (arith, ints, o.within)

pub returns-then-number-from : goal.returns-then-number-from
returns-then-number-from c =
    let low : FitsSigned w32 c.args.axis.low = search rules in
    let high : FitsSigned w32 c.args.axis.high = search rules in
    let less : c.args.number <ℤ c.args.axis.low = from_less c.args.number c.args.axis.low
    (sym (λ i. lt_z (to_z-of_z w64 c.args.number c.ranges.number i) (widened c.args.axis.low c.from-2.result low c.from-2.ensures i))
    ∙ c.if-number-from.true) in
    subst (IsNextOn (range c.args.axis) c.args.number) (sym (to_z-of_z w32 c.args.axis.low low)) (after_low (range c.args.axis) c.args.number less (not_less c.args.axis.high c.args.axis.low high low c.if-axis.false))

pub next_inside-requires : goal.next_inside-requires
next_inside-requires c =
    let x = to_z w64 (of_z w64 c.args.number) in
    let low : FitsSigned w32 c.args.axis.low = search rules in
    let high : FitsSigned w32 c.args.axis.high = search rules in
    record {
      form = forward (range c.args.axis) c.requires (not_less c.args.axis.high c.args.axis.low high low c.if-axis.false);
      from = from_not_less x c.args.axis.low (sym (ap (λ t. lt_z x t) (widened c.args.axis.low c.from-2.result low c.from-2.ensures)) ∙ c.if-number-from.false);
      below = from_not_most c.args.axis.high x (sym (ap (λ t. le_z t x) (widened c.args.axis.high c.from.result high c.from.ensures)) ∙ c.if-from-number.false);
    }

pub returns : goal.returns
returns c =
    let r = range c.args.axis in
    let y = c.next_inside.result in
    subst (IsNextOn r c.args.number) (sym (to_z-of_z w32 y (search rules))) (subst (λ x. IsNextOn r x y) (to_z-of_z w64 c.args.number c.ranges.number) c.next_inside.ensures)
