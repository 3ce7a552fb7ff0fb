use Rattle.std.proofs.Common.{ℕ, List, length, map, append-nil, ap, ◌∙◌, arith}
use Rattle.std.specs.List.{flat_map}
use Rattle.std.proofs.lemmas.List.{length-map}
use Rattle.ti_heap.specs.Things.{allocation_region, values_at}
use Rattle.ti_heap.proofs.Places.{few_places, inside_values}
use Rattle.ti_heap.proofs.cells.places_and_rest.Goals as goal

pub returns-clause-few : goal.returns-clause-few
returns-clause-few c =
    let few = few_places 0 c.args.region (map allocation_region c.args.share.now) in
    let same = ap (λ (ps : List ℕ). length ps) c.places_in.ensures in
    omega (arith, few, same, length-map c.args.share.now allocation_region)

pub returns-clause-values : goal.returns-clause-values
returns-clause-values c =
    let values = values_at c.args.region c.args.share.now in
    append-nil (flat_map values c.places_in.result.now)
    ∙ ap (flat_map values) c.places_in.ensures ∙ inside_values c.args.region c.args.share.now
