-- Dropping a region in the lists has the effect on the maps that `without_region` states.
use Rattle.std.proofs.Common.{◌≡◌, ℕ, eqb, Bool, true, false, if◌then◌else◌, List, [], ◌∷◌, map, Option, Some, None, refl, sym, ap, ◌∙◌}
use Rattle.std.specs.List.{slice_get}
use Rattle.std.specs.Option.{option_map, option_and_then, option_map_or}
use Rattle.std.proofs.lemmas.List.{length-map}
use Rattle.std.proofs.lemmas.Option.{slice_get-map}
use Rattle.ti_base.specs.declared.value.Id.{Id}
use Rattle.ti_base.specs.declared.value.Value.{Value}
use Rattle.ti_grid.specs.declared.layout.Layout.{Layout}
use Rattle.ti_heap.specs.declared.allocation.Allocation.{Allocation}
use Rattle.ti_heap.specs.declared.allocation.Allocation.TheVariants.{Object, Block, ViewOf, Gone}
use Rattle.ti_heap.specs.Contents.{CellIndex, GridMap, dropped_made, without_region}
use Rattle.ti_heap.specs.Things.{thing_at, is_named, named, live, values_of, allocation_region, layout_of, made_of, drop_if_in, map_of, made_in, contents, IsBacked, HaveBlocks}
use Rattle.ti_heap.proofs.Names.{named_region}
use Rattle.ti_heap.proofs.Changes.{same_contents, through_if}

module _ (r : ℕ) (h : List (List Allocation)) where
  at_dropped : (m s : ℕ) → thing_at (map (map (drop_if_in r)) h) m s ≡ option_map (drop_if_in r) (thing_at h m s)
  at_dropped m s = ap (option_and_then (λ (ts : List Allocation). slice_get ts s)) (slice_get-map (map (drop_if_in r)) h m) ∙ by (slice_get h m)
    where
      by : (o : Option (List Allocation)) → option_and_then (λ (ts : List Allocation). slice_get ts s) (option_map (map (drop_if_in r)) o)
          ≡ option_map (drop_if_in r) (option_and_then (λ (ts : List Allocation). slice_get ts s) o)
      by None = refl
      by (Some ts) = slice_get-map (drop_if_in r) ts s

  -- a name of another region means what it meant, and one of this region nothing
  named_dropped : (id : Id) (t : Allocation) → named id (drop_if_in r t) ≡ (if eqb id.region r then None else named id t)
  named_dropped id t = by (is_named id t) refl
    where
      by : (b : Bool) → is_named id t ≡ b → named id (drop_if_in r t) ≡ (if eqb id.region r then None else named id t)
      by true e =
          ap (λ (n : ℕ). named id (if eqb n r then Gone else t)) (sym (named_region id t e)) ∙ through_if (named id) (eqb id.region r) Gone t
      by false e = none (eqb (allocation_region t) r) ∙ sym (other (eqb id.region r))
        where
          unnamed : named id t ≡ None
          unnamed = ap (λ (v : Bool). if v then Some t else None) e

          none : (v : Bool) → named id (if v then Gone else t) ≡ None
          none true = refl
          none false = unnamed

          other : (v : Bool) → (if v then None else named id t) ≡ None
          other true = refl
          other false = unnamed

  live_dropped : (id : Id) → live (thing_at (map (map (drop_if_in r)) h)) id ≡ (if eqb id.region r then None else live (thing_at h) id)
  live_dropped id = ap (option_and_then (named id)) (at_dropped id.maker id.serial) ∙ by (thing_at h id.maker id.serial)
    where
      nothing_left : (v : Bool) → ◌≡◌ {A = Option Allocation} None (if v then None else None)
      nothing_left true = refl
      nothing_left false = refl

      by : (o : Option Allocation) → option_and_then (named id) (option_map (drop_if_in r) o) ≡ (if eqb id.region r then None else option_and_then (named id) o)
      by None = nothing_left (eqb id.region r)
      by (Some t) = named_dropped id t

  held : (c : CellIndex) → (contents (map (map (drop_if_in r)) h)).held c ≡ (if eqb c.thing.region r then None else (contents h).held c)
  held c =
      let f : Option Allocation → Option Value = option_and_then (λ (u : Allocation). slice_get (values_of u) c.number) in
      ap f (live_dropped c.thing) ∙ through_if f (eqb c.thing.region r) None (live (thing_at h) c.thing)

  grid : (id : Id) → (contents (map (map (drop_if_in r)) h)).grid id ≡ (if eqb id.region r then None else (contents h).grid id)
  grid id =
      let f : Option Allocation → Option GridMap = λ (o : Option Allocation). option_map map_of (option_and_then layout_of o) in
      ap f (live_dropped id) ∙ through_if f (eqb id.region r) None (live (thing_at h) id)

  region_made : (t : Allocation) → (made_of t).region ≡ allocation_region t
  region_made (Object region fields) = refl
  region_made (Block whole elements) = refl
  region_made (ViewOf view) = refl
  region_made Gone = refl

  made_dropped : (t : Allocation) → made_of (drop_if_in r t) ≡ dropped_made r (made_of t)
  made_dropped t =
      through_if made_of (eqb (allocation_region t) r) Gone t
      ∙ ap (λ (n : ℕ). if eqb n r then record { region = 0; cost = 0 } else made_of t) (sym (region_made t))

  all_made : (ts : List Allocation) → map made_of (map (drop_if_in r) ts) ≡ map (dropped_made r) (map made_of ts)
  all_made [] = refl
  all_made (t ∷ ts) = λ i. made_dropped t i ∷ all_made ts i

  made : (p : ℕ) → made_in (map (map (drop_if_in r)) h) p ≡ map (dropped_made r) (made_in h p)
  made p = ap (λ (o : Option (List Allocation)). map made_of (option_map_or (λ ts. ts) o [])) (slice_get-map (map (drop_if_in r)) h p) ∙ by (slice_get h p)
    where
      by : (o : Option (List Allocation)) → map made_of (option_map_or (λ ts. ts) (option_map (map (drop_if_in r)) o) []) ≡ map (dropped_made r) (map made_of (option_map_or (λ ts. ts) o []))
      by None = refl
      by (Some ts) = all_made ts

  pub drop_contents : contents (map (map (drop_if_in r)) h) ≡ without_region r (contents h)
  drop_contents = same_contents (contents (map (map (drop_if_in r)) h)) (without_region r (contents h)) (length-map h (map (drop_if_in r))) held grid made

  -- ---- what is kept

  block_region : (t : Allocation) (l : Layout) → layout_of t ≡ Some l → allocation_region t ≡ l.block.region
  block_region (Object region fields) l e = cc
  block_region (Block whole elements) l e = let same : whole ≡ l = cc in ap (λ (x : Layout). x.block.region) same
  block_region (ViewOf view) l e = let same : view ≡ l = cc in ap (λ (x : Layout). x.block.region) same
  block_region Gone l e = cc

  pub drop_sound : HaveBlocks (thing_at h) → HaveBlocks (thing_at (map (map (drop_if_in r)) h))
  drop_sound sound m s u l at e = from (thing_at h m s) refl (sym (at_dropped m s) ∙ at)
    where
      rest : (t : Allocation) → thing_at h m s ≡ Some t → (b : Bool) → eqb (allocation_region t) r ≡ b → (if b then Gone else t) ≡ u → IsBacked (thing_at (map (map (drop_if_in r)) h)) l
      rest t there true f g = let k : None ≡ Some l = ap layout_of g ∙ e in cc
      rest t there false f g =
          let is : layout_of t ≡ Some l = ap layout_of g ∙ e in
          let b = sound m s t l there is in
          let apart : eqb l.block.region r ≡ false = ap (λ (n : ℕ). eqb n r) (sym (block_region t l is)) ∙ f in
          record {
            whole = b.whole;
            elements = b.elements;
            there = live_dropped l.block ∙ ap (λ (v : Bool). if v then None else live (thing_at h) l.block) apart ∙ b.there;
            below = b.below;
          }

      from : (o : Option Allocation) → thing_at h m s ≡ o → option_map (drop_if_in r) o ≡ Some u → IsBacked (thing_at (map (map (drop_if_in r)) h)) l
      from None there f = cc
      from (Some t) there f = let g : drop_if_in r t ≡ u = cc in rest t there (eqb (allocation_region t) r) refl g
