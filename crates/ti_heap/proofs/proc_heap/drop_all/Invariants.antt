use Rattle.std.proofs.Common.{◌≡◌, ◌+◌, map, drop}
use Rattle.ti_heap.specs.Places.{places_in_region}
use Rattle.ti_heap.specs.Things.{drop_if_in, total_cost}
use Rattle.ti_heap.proofs.proc_heap.drop_all.Given as goal

abbrev pub invariant-loop-place : goal.invariant-loop-place
invariant-loop-place l = record {
  left : places_in_region l.region l.things ≡ drop l.place-index l.places;
  ends : map (drop_if_in l.region) l.things ≡ map (drop_if_in l.region) l.initial.things;
  cost : l.freed + total_cost l.things ≡ total_cost l.initial.things;
}
