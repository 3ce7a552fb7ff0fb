use Rattle.std.proofs.Common.{◌≡◌, ℕ, ◌+◌, ◌*◌, ◌/◌, ◌≤ℤ◌, ◌<ℤ◌, sym, ap, ◌∙◌, arith}
use Rattle.std.proofs.lemmas.Int.{ints}
use Rattle.ti_rect.specs.Axes.{range}
use Rattle.ti_grid.specs.Mirrors.Numbers.{steps_to}
use Rattle.ti_grid.proofs.StepLaws.{stretched_number, stretched_below, single_number}
use Rattle.ti_grid.proofs.restrict.scaled_step.Goals as goal

pub overflow_mul-result : goal.overflow_mul-result
overflow_mul-result c =
    let less : c.args.part.low <ℤ c.args.part.high = omega (arith, ints) in
    let below = stretched_below (range c.args.axis) (range c.args.part) c.requires.whole c.requires.form c.requires.inside c.args.step 1048576 less c.requires.below in
    let e : c.from.result * c.args.step ≡ c.args.part.step / c.args.axis.step * c.args.step = ap (λ (k : ℕ). k * c.args.step) c.from.ensures in
    omega arith

pub returns-then-part : goal.returns-then-part
returns-then-part c = λ x o.
    let less : c.args.part.low <ℤ c.args.part.high = omega (arith, ints) in
    let a = range c.args.axis in
    let p = range c.args.part in
    stretched_number a p c.requires.whole c.requires.form c.requires.inside c.args.step less x o
    ∙ ap (λ (k : ℕ). steps_to a p.low * c.args.step + steps_to p x * (k * c.args.step)) (sym c.from.ensures)

pub returns-else-part : goal.returns-else-part
returns-else-part c = λ x o.
    let none : c.args.part.high ≤ℤ c.args.part.low = omega (arith, ints) in
    single_number (range c.args.axis) (range c.args.part) c.requires.whole c.requires.form c.requires.inside c.args.step none x o
