-- Shared regions, numbered from 1, each with its count of references from cells outside.
use Rattle.std.specs.Prelude.{ℕ, ◌+◌, ◌-◌, ◌^◌, ◌<◌, ◌≤◌, ◌==◌, true, false, ◌||◌, if◌then◌else◌, List, length, slice_index_or, slice_set, Option, Some, None, IfSome, option_and_then}
use Rattle.ti_base.specs.declared.value.Id.{Id}
use Rattle.ti_base.specs.declared.value.Value.{Value}
use Rattle.ti_base.specs.Cells.{named_by}
use Rattle.ti_region.specs.declared.region.Region.{Region}

-- a region with this number was made
pub record IsMadeRegion (regions : List Region) (r : ℕ) : Type 0 where
  pub first : 1 ≤ r
  pub last : r ≤ length regions

-- a region that has just been made
abbrev pub new_region : Region
new_region = record { is_live = true; count = 0 }

-- the region with this number
abbrev pub region_at : List Region → ℕ → Region
region_at regions r = slice_index_or regions (r - 1) new_region

-- the regions, with another one under this number
abbrev pub with_region : List Region → ℕ → Region → List Region
with_region regions r region = slice_set regions (r - 1) region

-- the regions, with the one under this number deleted
abbrev pub with_deleted : List Region → ℕ → List Region
with_deleted regions r = with_region regions r (record { is_live = false; count = (region_at regions r).count })

-- ---- counts

-- the region whose count a value in a cell of this region increases: that of what it names, unless this is none or the cell's own
abbrev pub counted_for : ℕ → Value → Option ℕ
counted_for cell_region value =
    option_and_then (λ (id : Id). if id.region == 0 || id.region == cell_region then None else Some id.region) (named_by value)

-- the regions, with this count for the one under this number
abbrev pub with_count : List Region → ℕ → ℕ → List Region
with_count regions r count = with_region regions r (record { is_live = (region_at regions r).is_live; count = count })

-- the count of the region is one less, if one is given
abbrev pub one_less : List Region → Option ℕ → List Region
one_less regions None = regions
one_less regions (Some r) = with_count regions r ((region_at regions r).count - 1)

-- the count of the region is one more, if one is given
abbrev pub with_one_more : List Region → Option ℕ → List Region
with_one_more regions None = regions
with_one_more regions (Some r) = with_count regions r ((region_at regions r).count + 1)

-- the region, if one is given, was made and has a count above 0
abbrev pub CanLose : List Region → Option ℕ → Type 0
CanLose regions region = IfSome region (λ r. IsMadeRegion regions r × (0 < (region_at regions r).count))

-- the region, if one is given, was made and its count can increase by one
abbrev pub CanGain : List Region → Option ℕ → Type 0
CanGain regions region = IfSome region (λ r. IsMadeRegion regions r × ((region_at regions r).count + 1 < 2 ^ 64))

-- the counts after a write to a cell of this region: the old value counts no longer, and the new one does
abbrev pub after_put : ℕ → Value → Value → List Region → List Region
after_put cell_region before after regions = with_one_more (one_less regions (counted_for cell_region before)) (counted_for cell_region after)
