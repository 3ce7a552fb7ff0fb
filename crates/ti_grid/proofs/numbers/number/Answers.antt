use Rattle.std.proofs.Common.{◌≡◌, ◌+◌, slice_index, ◌∙◌, arith, rules}
use Rattle.std.specs.Int.{w32}
use Rattle.std.proofs.lemmas.Int.{to_z-of_z}
use Rattle.ti_rect.specs.Axes.{range}
use Rattle.ti_base.specs.Rects.{first_range, second_range, third_range}
use Rattle.ti_grid.specs.Mirrors.Numbers.{cell_index}
use Rattle.ti_grid.proofs.SeenLaws.{along}
use Rattle.ti_grid.proofs.numbers.number.Goals as goal
use Rattle.ti_grid.proofs.numbers.number.Goals.{After-offset-z}

sum_is : (c : After-offset-z) → c.args.layout.now.base + c.offset-x.result + c.offset-y.result + c.offset-z.result ≡ cell_index c.args.layout.now c.args.point.now
sum_is c =
    let l = c.args.layout.now in
    let p = c.args.point.now in
    let x = c.offset-x.ensures ∙ along (range c.first.result) (first_range l.dom) _ p.x1 (slice_index l.steps 0) c.first.ensures (to_z-of_z w32 p.x1 (search rules)) in
    let y = c.offset-y.ensures ∙ along (range c.second.result) (second_range l.dom) _ p.x2 (slice_index l.steps 1) c.second.ensures (to_z-of_z w32 p.x2 (search rules)) in
    let z = c.offset-z.ensures ∙ along (range c.third.result) (third_range l.dom) _ p.x3 (slice_index l.steps 2) c.third.ensures (to_z-of_z w32 p.x3 (search rules)) in
    λ i. l.base + x i + y i + z i

pub offset-x-requires-clause-below : goal.offset-x-requires-clause-below
offset-x-requires-clause-below c =
    let l = c.args.layout.now in
    let p = c.args.point.now in
    omega (arith, c.requires.laid.below p c.requires.inside, along (range c.first.result) (first_range l.dom) _ p.x1 (slice_index l.steps 0) c.first.ensures (to_z-of_z w32 p.x1 (search rules)))

pub offset-y-requires-clause-below : goal.offset-y-requires-clause-below
offset-y-requires-clause-below c =
    let l = c.args.layout.now in
    let p = c.args.point.now in
    omega (arith, c.requires.laid.below p c.requires.inside, along (range c.second.result) (second_range l.dom) _ p.x2 (slice_index l.steps 1) c.second.ensures (to_z-of_z w32 p.x2 (search rules)))

pub offset-z-requires-clause-below : goal.offset-z-requires-clause-below
offset-z-requires-clause-below c =
    let l = c.args.layout.now in
    let p = c.args.point.now in
    omega (arith, c.requires.laid.below p c.requires.inside, along (range c.third.result) (third_range l.dom) _ p.x3 (slice_index l.steps 2) c.third.ensures (to_z-of_z w32 p.x3 (search rules)))

pub overflow_add-result : goal.overflow_add-result
overflow_add-result c = omega (arith, sum_is c, c.requires.laid.below c.args.point.now c.requires.inside)

pub overflow_add-result-2 : goal.overflow_add-result-2
overflow_add-result-2 c = omega (arith, sum_is c, c.requires.laid.below c.args.point.now c.requires.inside)

pub overflow_add-result-3 : goal.overflow_add-result-3
overflow_add-result-3 c = omega (arith, sum_is c, c.requires.laid.below c.args.point.now c.requires.inside)

pub returns-clause-value : goal.returns-clause-value
returns-clause-value c = sum_is c

pub returns-clause-below : goal.returns-clause-below
returns-clause-below c = omega (arith, sum_is c, c.requires.laid.below c.args.point.now c.requires.inside)
