use Rattle.std.proofs.Common.{◌≡◌, ℕ, ◌+◌, Bool, true, false, nat_lt, if◌then◌else◌, length, replicate, Some, None, ap, ◌∙◌}
use Rattle.ti_base.specs.Rects.{points_of}
use Rattle.ti_base.specs.Cells.{zero_value}
use Rattle.ti_heap.specs.Contents.{with_thing, whole_map, cost_of}
use Rattle.ti_heap.specs.Things.{map_of, contents}
use Rattle.ti_heap.proofs.Grids.{whole_maps}
use Rattle.ti_heap.proofs.Makings.{grid_there}
use Rattle.ti_heap.proofs.heap.Heap.new_grid.Goals as goal

-- what a test lets through
passed : (t : Bool) (n m : ℕ) → Some n ≡ (if t then None else Some m) → n ≡ m
passed true n m e = cc
passed false n m e = cc

pub returns-clause-made : goal.returns-clause-made
returns-clause-made c =
    let s = contents c.args.self.now in
    let dom = c.args.dom.now in
    let n : c.in-Some.count ≡ length (points_of dom) =
    passed (nat_lt 1048576 (cost_of c.args.process s + (1 + length (points_of dom)))) c.in-Some.count (length (points_of dom)) c.in-Some.ensures in
    let values : c.in_ok-elements.elements ≡ replicate (length (points_of dom)) (zero_value c.args.zero) =
    c.in_ok-elements.ensures ∙ (λ i. replicate (n i) (c.zero_of.ensures i)) in
    let grid : Some (map_of c.view_of-whole.result) ≡ Some (whole_map c.next_id-id.result dom) =
    ap Some (whole_maps c.view_of-whole.result c.next_id-id.result dom c.view_of-whole.ensures.block c.view_of-whole.ensures.domain c.view_of-whole.ensures.cells) in
    c.in_ok-push.ensures.ok ∙ (λ i. with_thing c.next_id-id.result (values i) (grid i) s)

pub returns-clause-there : goal.returns-clause-there
returns-clause-there c =
    let dom = c.args.dom.now in
    grid_there (contents c.push.new.self) (contents c.args.self.now) c.next_id-id.result c.in_ok-elements.elements (Some (map_of c.view_of-whole.result)) c.in_ok-push.ensures.ok
    ∙ ap Some (whole_maps c.view_of-whole.result c.next_id-id.result dom c.view_of-whole.ensures.block c.view_of-whole.ensures.domain c.view_of-whole.ensures.cells)
