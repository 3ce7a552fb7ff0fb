use Rattle.std.proofs.Common.{◌≡◌, ℕ, ◌+◌, ◌<◌, List, ◌∷◌, map, length, get_or, drop, set, slice_index_or, refl, sym, ap, ◌∙◌, arith}
use Rattle.std.proofs.lemmas.List.{drop_more, drop_all}
use Rattle.std.proofs.lemmas.Option.{slice_get_read}
use Rattle.ti_heap.specs.declared.allocation.Allocation.{Allocation}
use Rattle.ti_heap.specs.Places.{places_in_region}
use Rattle.ti_heap.specs.Things.{drop_if_in, changed_at}
use Rattle.ti_heap.proofs.Lists.{set_changed}
use Rattle.ti_heap.proofs.Costs.{cost_set, cost_within}
use Rattle.ti_heap.proofs.Places.{next_place, no_place, dropped_once}
use Rattle.ti_heap.proofs.proc_heap.drop_all.Goals as goal

-- one turn: what stands at the first of the places that are left is dropped
module _ (r : ℕ) (pos : 0 < r) (xs : List Allocation) (places : List ℕ) (n : ℕ)
    (turn : n < length places) (left : places_in_region r xs ≡ drop n places) where
  abbrev place : ℕ
  place = slice_index_or places n 0

  now : places_in_region r xs ≡ place ∷ drop (n + 1) places
  now = left ∙ drop_more places n 0 turn

  within : place < length xs
  within = (next_place r pos xs place (drop (n + 1) places) now).0

  module _ (t new : Allocation) (is : t ≡ get_or xs place t) (gone : new ≡ drop_if_in r t) where
    changed : set xs place new ≡ changed_at place (drop_if_in r) xs
    changed =
        ap (λ (y : Allocation). set xs place y) gone
        ∙ set_changed xs place (drop_if_in r) t (slice_get_read xs (length xs) place t refl within is)

    left_after : places_in_region r (set xs place new) ≡ drop (n + 1) places
    left_after =
        ap (places_in_region r) changed ∙ (next_place r pos xs place (drop (n + 1) places) now).1

    ends_after : map (drop_if_in r) (set xs place new) ≡ map (drop_if_in r) xs
    ends_after = ap (map (drop_if_in r)) changed ∙ dropped_once r place xs

pub bounds-things-place : goal.bounds-things-place
bounds-things-place c =
    within c.args.region c.requires.region c.loop-place.things c.args.places.now
    c.loop-place.place-index (omega arith) c.loop-place.invariant.left

pub overflow_add-freed : goal.overflow_add-freed
overflow_add-freed c =
    let xs = c.loop-place.things in
    let p = slice_index_or c.args.places.now c.loop-place.place-index 0 in
    let t = get_or xs p c.index-things-place.result in
    let is : t ≡ get_or xs p t = ap (get_or xs p) c.index-things-place.is in
    let bound =
    within c.args.region c.requires.region xs c.args.places.now c.loop-place.place-index (omega arith)
    c.loop-place.invariant.left in
    let least = cost_within xs p t bound is in
    let freed = c.drop_from-freed.ensures.freed in
    omega (arith, least, freed, c.loop-place.invariant.cost, c.requires.few)

pub loop-place-preserved : goal.loop-place-preserved
loop-place-preserved c =
    let r = c.args.region in
    let n = c.loop-place.place-index in
    let places = c.args.places.now in
    let xs = c.loop-place.things in
    let left = c.loop-place.invariant.left in
    let new = c.drop_from-freed.new.self in
    let p = slice_index_or places n 0 in
    let t = get_or xs p c.index-things-place.result in
    let is : t ≡ get_or xs p t = ap (get_or xs p) c.index-things-place.is in
    let gone = c.drop_from-freed.ensures.thing in
    let pos = c.requires.region in
    let cost = cost_set xs p t new (within r pos xs places n (omega arith) left) is in
    record {
      left = left_after r pos xs places n (omega arith) left t new is gone;
      ends = ends_after r pos xs places n (omega arith) left t new is gone
          ∙ c.loop-place.invariant.ends;
      cost = omega (arith, cost, c.drop_from-freed.ensures.freed, c.loop-place.invariant.cost);
    }

pub returns-clause-things : goal.returns-clause-things
returns-clause-things c =
    let all = drop_all c.loop-place.place-index c.args.places.now (omega arith) in
    sym (no_place c.args.region 0 c.loop-place.things (c.loop-place.invariant.left ∙ all))
    ∙ c.loop-place.invariant.ends
