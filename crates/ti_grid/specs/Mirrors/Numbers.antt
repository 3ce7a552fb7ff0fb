-- The cell index as the code computes it. What the indices mean is stated by the contracts of the public functions.
use Rattle.std.specs.Prelude.{ℕ, ◌+◌, ◌*◌, ◌/◌, ℤ, ◌-ℤ◌, slice_index}
use Rattle.ti_base.specs.declared.point.Point.{Point}
use Rattle.ti_base.specs.Ranges.{Range, natural}
use Rattle.ti_base.specs.Rects.{first_range, second_range, third_range}
use Rattle.ti_grid.specs.declared.layout.Layout.{Layout}

-- how many steps of the range x is above the lower end
abbrev pub steps_to : Range → ℤ → ℕ
steps_to r x = natural (x -ℤ r.low) / r.step

-- the cell index of a point of the domain
abbrev pub cell_index : Layout → Point → ℕ
cell_index v p =
    v.base + steps_to (first_range v.dom) p.x1 * slice_index v.steps 0 + steps_to (second_range v.dom) p.x2 * slice_index v.steps 1
    + steps_to (third_range v.dom) p.x3 * slice_index v.steps 2
