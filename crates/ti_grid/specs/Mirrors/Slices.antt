-- The splitting off of a coordinate, as array slices compute it. What a slice means is stated by the contract of `view_slice`.
use Rattle.std.specs.Prelude.{◌≡◌, ◌↔◌, ℕ, ◌+◌, ◌-◌, ◌*◌, ◌<◌, ℤ, true}
use Rattle.ti_base.specs.declared.point.Point.{Point}
use Rattle.ti_base.specs.Ranges.{Range, IsOn, IsTidy, natural, unused_range}
use Rattle.ti_base.specs.Rects.{of_ranges, without}
use Rattle.ti_base.specs.Cells.{has_coordinate, with_coordinate}
use Rattle.ti_grid.specs.declared.layout.Layout.{Layout}
use Rattle.ti_grid.specs.Mirrors.Numbers.{steps_to, cell_index}

-- coordinate k has the range out, and one step in it adds s to the cell index; the remaining coordinates have a with t, and b with u
pub record IsSplit (l : Layout) (k : ℤ) (out a b : Range) (s t u : ℕ) : Type 0 where
  pub forward : 0 < out.step
  pub form : IsTidy out
  pub first : IsTidy a
  pub second : IsTidy b
  pub unused_second : l.dom.dim < 3 → b ≡ unused_range
  pub has : (j : ℤ) → (has_coordinate l.dom k j ≡ true) ↔ IsOn out j
  pub below : (j : ℤ) → IsOn out j → l.base + steps_to out j * s < 1048576
  pub domain : without (natural k) l.dom ≡ of_ranges (l.dom.dim - 1) a b unused_range
  pub number : (j : ℤ) (p : Point)
      → cell_index l (with_coordinate k j p) ≡ l.base + steps_to out j * s + steps_to a p.x1 * t + steps_to b p.x2 * u
  pub apart : (j : ℤ) (p q : Point) → with_coordinate k j p ≡ with_coordinate k j q → (p.x1 ≡ q.x1) × (p.x2 ≡ q.x2)
