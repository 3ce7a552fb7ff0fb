-- Where the objects, blocks and views of a region stand in a list.
use Rattle.std.specs.Prelude.{ℕ, ◌+◌, ◌==◌, if◌then◌else◌, List, [], ◌∷◌, map, ◌≡◌, ◌<◌, Option, Some, None, nat_eq}
use Rattle.std.specs.HashMap.{get}
use Rattle.std.specs.declared.vec.Vec.{Vec}
use Rattle.ti_heap.specs.declared.allocation.Allocation.{Allocation}
use Rattle.ti_heap.specs.declared.region_index.RegionIndex.{RegionIndex}
use Rattle.ti_heap.specs.Things.{allocation_region, IsCounted}

-- the items of a list, if there is one
abbrev pub items_or_none : {A Z : Type 0} → Option (Vec A Z) → List A
items_or_none None = []
items_or_none (Some list) = list.items

-- the serial numbers that an index has for the region
abbrev pub listed : RegionIndex → ℕ → List ℕ
listed index region = items_or_none (get nat_eq index.lists region)

-- the places of a region in a list of regions, which begins at place n
abbrev pub places_from : ℕ → ℕ → List ℕ → List ℕ
places_from n region [] = []
places_from n region (r ∷ rs) =
    if r == region then n ∷ places_from (n + 1) region rs else places_from (n + 1) region rs

-- the serial numbers of what is in the region
abbrev pub places_in_region : ℕ → List Allocation → List ℕ
places_in_region region things = places_from 0 region (map allocation_region things)

-- the index lists the places of each region
abbrev pub IsIndex : RegionIndex → List Allocation → Type 0
IsIndex index things = (region : ℕ) → 0 < region → listed index region ≡ places_in_region region things

-- the cost is counted, and the regions are indexed
pub record IsShare (cost : ℕ) (index : RegionIndex) (things : List Allocation) : Type 0 where
  pub counted : IsCounted cost things
  pub indexed : IsIndex index things
