-- The layouts of grids represent maps from points to cells.
use Rattle.std.proofs.Common.{◌≡◌, ℕ, ◌<◌, false, if◌then◌else◌, length, Some, None, IsSome, sym, ap, subst, ◌∙◌}
use Rattle.std.specs.List.{slice_get}
use Rattle.std.specs.Option.{option_map, option_and_then, is_some}
use Rattle.std.proofs.lemmas.Option.{slice_get-get_or}
use Rattle.ti_base.specs.declared.point.Point.{Point}
use Rattle.ti_base.specs.declared.point.Rect.{Rect}
use Rattle.ti_base.specs.declared.value.Id.{Id}
use Rattle.ti_base.specs.declared.value.Value.TheVariants as v
use Rattle.ti_base.specs.declared.action.ViewHow.{ViewHow}
use Rattle.ti_base.specs.Rects.{is_in, points_of}
use Rattle.ti_base.specs.Cells.{view_domain, seen_point}
use Rattle.ti_grid.specs.declared.layout.Layout.{Layout}
use Rattle.ti_grid.specs.Views.{cell_number, place_in, IsWhole, IsSeen}
use Rattle.ti_heap.specs.declared.allocation.Allocation.{Allocation}
use Rattle.ti_heap.specs.declared.allocation.Allocation.TheVariants.{Block}
use Rattle.ti_heap.specs.Contents.{cell_at, whole_map, seen_map}
use Rattle.ti_heap.specs.Things.{Things, live, values_of, value_in_cell, map_of, IsBacked}
use Rattle.ti_heap.proofs.Changes.{through_if}

pub whole_maps : (l : Layout) (id : Id) (dom : Rect) → l.block ≡ id → l.dom ≡ dom → IsWhole l → map_of l ≡ whole_map id dom
whole_maps l id dom b d w =
    let cells : (p : Point) → option_map (cell_at l.block) (cell_number l p) ≡ option_map (cell_at id) (place_in (points_of dom) p) = λ p.
    let n : cell_number l p ≡ place_in (points_of dom) p = w p ∙ ap (λ (r : Rect). place_in (points_of r) p) d in
    (λ i. option_map (cell_at (b i)) (n i)) in
    λ i. record { domain = d i; cell = λ p. cells p i }

pub seen_maps : (how : ViewHow) (l new : Layout) → IsSeen how l new → map_of new ≡ seen_map how (map_of l)
seen_maps how l new s =
    let cells : (p : Point) → option_map (cell_at new.block) (cell_number new p)
    ≡ (if is_in (view_domain how l.dom) p then option_map (cell_at l.block) (cell_number l (seen_point how p)) else None) = λ p.
    (λ i. option_map (cell_at (s.block i)) (s.cells p i))
    ∙ through_if (option_map (cell_at l.block)) (is_in (view_domain how l.dom) p) (cell_number l (seen_point how p)) None in
    λ i. record { domain = s.domain i; cell = λ p. cells p i }

pub seen_backed : (how : ViewHow) (things : Things) (l new : Layout) → IsBacked things l → IsSeen how l new → IsBacked things new
seen_backed how things l new b s = record {
  whole = b.whole;
  elements = b.elements;
  there = subst (λ (x : Id). live things x ≡ Some (Block b.whole b.elements)) (sym s.block) b.there;
  below = s.below (length b.elements) b.below;
}

-- the cells of a view are there
pub backed_held : (things : Things) (l : Layout) (block : Id) (i : ℕ) → block ≡ l.block → (b : IsBacked things l) → i < length b.elements → IsSome (value_in_cell things (cell_at block i))
backed_held things l block i e b h =
    let there : live things block ≡ Some (Block b.whole b.elements) = ap (live things) e ∙ b.there in
    let some = slice_get-get_or b.elements i (v.Bool false) h in
    let at : value_in_cell things (cell_at block i) ≡ slice_get b.elements i = ap (option_and_then (λ (t : Allocation). slice_get (values_of t) i)) there in
    ap is_some (at ∙ some)
