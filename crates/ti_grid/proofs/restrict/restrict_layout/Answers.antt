use Rattle.std.proofs.Common.{sym, arith}
use Rattle.ti_rect.proofs.Lemmas.{low_in}
use Rattle.ti_grid.proofs.SeenLaws.{part_along, stretch_along, first_part, second_part, third_part}
use Rattle.ti_grid.proofs.restrict.restrict_layout.Goals as goal

pub number-base-requires-clause-inside : goal.number-base-requires-clause-inside
number-base-requires-clause-inside c = c.requires.inside c.args.dom.now.lo (low_in c.args.dom.now c.requires.form)

pub scaled_step-x-requires : goal.scaled_step-x-requires
scaled_step-x-requires c =
    part_along _ _ _ _ _ (sym c.first.ensures) (sym c.first-2.ensures) (first_part c.args.layout.now c.requires.laid c.args.dom.now c.requires.form c.requires.inside)

pub scaled_step-y-requires : goal.scaled_step-y-requires
scaled_step-y-requires c =
    part_along _ _ _ _ _ (sym c.second.ensures) (sym c.second-2.ensures) (second_part c.args.layout.now c.requires.laid c.args.dom.now c.requires.form c.requires.inside)

pub scaled_step-z-requires : goal.scaled_step-z-requires
scaled_step-z-requires c =
    part_along _ _ _ _ _ (sym c.third.ensures) (sym c.third-2.ensures) (third_part c.args.layout.now c.requires.laid c.args.dom.now c.requires.form c.requires.inside)

pub returns-clause-numbers : goal.returns-clause-numbers
returns-clause-numbers c = λ p w.
    let x = stretch_along _ _ _ _ _ _ c.first.ensures c.first-2.ensures c.scaled_step-x.ensures p.x1 w.first in
    let y = stretch_along _ _ _ _ _ _ c.second.ensures c.second-2.ensures c.scaled_step-y.ensures p.x2 w.second in
    let z = stretch_along _ _ _ _ _ _ c.third.ensures c.third-2.ensures c.scaled_step-z.ensures p.x3 w.third in
    let b = c.number-base.ensures.value in
    omega arith
