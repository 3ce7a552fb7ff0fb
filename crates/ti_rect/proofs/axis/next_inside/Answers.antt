use Rattle.std.proofs.Common.{◌≡◌, ◌+◌, ◌*◌, ◌/◌, pos, ◌+ℤ◌, ap, arith, rules}
use Rattle.std.proofs.lemmas.Int.{ints, to_z-of_z}
use Rattle.std.specs.Int.{w32}
use Rattle.ti_rect.specs.Axes.{range}
use Rattle.ti_rect.proofs.AxisLaws.{after_fits, after_within}
use Rattle.ti_rect.proofs.axis.next_inside.Goals as goal

pub nth_above-requires : goal.nth_above-requires
nth_above-requires c =
    let r = range c.args.axis in
    let at : c.args.number ≡ r.low +ℤ pos c.distance.result = omega (arith, ints) in
    after_fits r c.args.number _ _ c.distance.result _ c.requires.form at c.requires.below (to_z-of_z w32 r.low (search rules)) (to_z-of_z w32 r.high (search rules)) c.from.ensures

pub returns : goal.returns
returns c =
    let r = range c.args.axis in
    let at : c.args.number ≡ r.low +ℤ pos c.distance.result = omega (arith, ints) in
    let same : (c.distance.result / c.from.result + 1) * r.step ≡ (c.distance.result / r.step + 1) * r.step = ap (λ n. (c.distance.result / n + 1) * r.step) c.from.ensures in
    after_within r c.args.number _ c.distance.result c.requires.form at c.requires.below (omega (arith, ints))
