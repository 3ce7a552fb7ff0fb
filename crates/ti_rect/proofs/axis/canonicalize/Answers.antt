use Rattle.std.proofs.Common.{◌↔◌, refl, subst, arith}
use Rattle.std.proofs.lemmas.Int.{ints}
use Rattle.ti_base.specs.Ranges.{IsOn}
use Rattle.ti_rect.specs.Axes.{range}
use Rattle.ti_rect.proofs.AxisLaws.{same_range}
use Rattle.ti_rect.proofs.axis.canonicalize.Goals as goal

pub returns-clause-same : goal.returns-clause-same
returns-clause-same c = λ x.
    let e = same_range _ (range c.args.axis) (omega (arith, ints)) (omega (arith, ints)) refl in
    subst (λ r. IsOn (range c.range_up_to.result) x ↔ IsOn r x) e (c.range_up_to.ensures.same x)
