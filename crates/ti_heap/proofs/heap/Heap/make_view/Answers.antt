use Rattle.std.proofs.Common.{◌≡◌, ℕ, length, eqb, [], Option, Some, sym, ap, ◌∙◌}
use Rattle.std.specs.Option.{option_map}
use Rattle.std.proofs.lemmas.Bool.{and_from, eq-eqb}
use Rattle.ti_base.specs.declared.value.Id.{Id}
use Rattle.ti_heap.specs.Contents.{GridMap, with_thing, seen_map}
use Rattle.ti_heap.specs.Things.{thing_at, grid_in, map_of, made_in, contents}
use Rattle.ti_heap.proofs.Makings.{grid_there, grid_kept, not_next}
use Rattle.ti_heap.proofs.Names.{layout_then}
use Rattle.ti_heap.proofs.Grids.{seen_maps, seen_backed}
use Rattle.ti_heap.proofs.heap.Heap.make_view.Goals as goal

pub push-requires-clause-named : goal.push-requires-clause-named
push-requires-clause-named c =
    let l = layout_then (thing_at c.args.self.now) c.args.grid c.view.result.now c.view.ensures.layout in
    let b = sym c.in-Ok.ensures.view.block in
    and_from (eqb c.args.grid.owner c.in-Ok.view.block.owner) (eqb c.next_id.result.region c.in-Ok.view.block.region)
    (eq-eqb c.args.grid.owner c.in-Ok.view.block.owner (l.0 ∙ ap (λ (x : Id). x.owner) b))
    (eq-eqb c.next_id.result.region c.in-Ok.view.block.region (ap (λ (x : Id). x.region) c.next_id.ensures ∙ l.1 ∙ ap (λ (x : Id). x.region) b))

pub push-requires-clause-backed : goal.push-requires-clause-backed
push-requires-clause-backed c = seen_backed c.args.how (thing_at c.args.self.now) c.view.result.now c.in-Ok.view c.view.ensures.backed c.in-Ok.ensures.view

pub returns-clause-made : goal.returns-clause-made
returns-clause-made c =
    let grid : Some (map_of c.in-Ok.view) ≡ option_map (seen_map c.args.how) (grid_in (thing_at c.args.self.now) c.args.grid) =
    ap Some (seen_maps c.args.how c.view.result.now c.in-Ok.view c.in-Ok.ensures.view) ∙ sym (ap (λ o. option_map (seen_map c.args.how) (option_map map_of o)) c.view.ensures.layout) in
    c.in_ok-push.ensures.ok
    ∙ ap (λ (g : Option GridMap). with_thing (record {
      maker = c.next_id.result.maker;
      serial = c.next_id.result.serial;
      owner = c.args.grid.owner;
      region = c.next_id.result.region;
    }) [] g (contents c.args.self.now)) grid

pub returns-clause-there : goal.returns-clause-there
returns-clause-there c =
    let grid : Some (map_of c.in-Ok.view) ≡ option_map (seen_map c.args.how) (grid_in (thing_at c.args.self.now) c.args.grid) =
    ap Some (seen_maps c.args.how c.view.result.now c.in-Ok.view c.in-Ok.ensures.view) ∙ sym (ap (λ o. option_map (seen_map c.args.how) (option_map map_of o)) c.view.ensures.layout) in
    grid_there (contents c.push.new.self) (contents c.args.self.now)
    (record {
      maker = c.next_id.result.maker;
      serial = c.next_id.result.serial;
      owner = c.args.grid.owner;
      region = c.next_id.result.region;
    }) [] (Some (map_of c.in-Ok.view)) c.in_ok-push.ensures.ok ∙ grid

pub returns-clause-kept : goal.returns-clause-kept
returns-clause-kept c =
    let id : Id = record { maker = c.next_id.result.maker; serial = c.next_id.result.serial; owner = c.args.grid.owner; region = c.next_id.result.region } in
    let next : id.serial ≡ length (made_in c.args.self.now id.maker) =
    ap (λ (x : Id). x.serial) c.next_id.ensures ∙ ap (λ (n : ℕ). length (made_in c.args.self.now n)) (sym (ap (λ (x : Id). x.maker) c.next_id.ensures)) in
    grid_kept (contents c.push.new.self) (contents c.args.self.now) id [] (Some (map_of c.in-Ok.view)) c.in_ok-push.ensures.ok c.args.grid
    (not_next c.args.self.now id c.args.grid c.view.result.now next c.view.ensures.layout)
