use Rattle.std.proofs.Common.{◌≡◌, ◌*◌, true, false, [], ◌∷◌, refl, sym, ap, ◌∙◌, arith}
use Rattle.ti_base.specs.Ranges.{count_on}
use Rattle.ti_base.specs.Rects.{HasPoints, second_range, third_range}
use Rattle.ti_rect.proofs.Lemmas.{full}
use Rattle.ti_grid.specs.declared.layout.Layout.{Layout}
use Rattle.ti_grid.proofs.WholeLaws.{plane_few, whole_place, whole_laid, whole_numbers}
use Rattle.ti_grid.proofs.whole.row_major_layout.Goals as goal
use Rattle.ti_grid.proofs.whole.row_major_layout.Goals.{After-count}

rows : (c : After-count) → c.count-row.result ≡ count_on (third_range c.args.dom.now)
rows c = c.count-row.ensures.number ∙ ap count_on c.third.ensures

planes : (c : After-count) → c.count.result * c.count-row.result ≡ count_on (second_range c.args.dom.now) * count_on (third_range c.args.dom.now)
planes c = let e = c.count.ensures.number ∙ ap count_on c.second.ensures in λ i. e i * rows c i

filled : (c : After-count) → HasPoints c.args.dom.now
filled c = full c.args.dom.now c.requires.form (λ e. let t = c.is_empty.ensures.1 e in let f = c.if-is_empty.false in let g : true ≡ false = sym t ∙ f in cc)

pub overflow_mul-plane : goal.overflow_mul-plane
overflow_mul-plane c = omega (arith, planes c, plane_few c.args.dom.now (filled c), c.requires.few)

numbered : (c : After-count) → Layout
numbered c = record { block = c.args.block; dom = c.args.dom.now; base = 0; steps = c.count.result * c.count-row.result ∷ c.count-row.result ∷ 1 ∷ [] }

pub returns-clause-laid : goal.returns-clause-laid
unfolding numbered
returns-clause-laid c =
    let a = (goal.at.returns-clause-laid c).After-count in
    whole_laid (numbered a) c.requires.form c.requires.few (whole_place (numbered a) c.requires.form refl (planes a) (rows a) refl)

pub returns-clause-numbers : goal.returns-clause-numbers
unfolding numbered
returns-clause-numbers c =
    let a = (goal.at.returns-clause-numbers c).After-count in
    whole_numbers (numbered a) c.requires.form c.requires.few (whole_place (numbered a) c.requires.form refl (planes a) (rows a) refl)
