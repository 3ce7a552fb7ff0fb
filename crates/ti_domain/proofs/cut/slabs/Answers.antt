use Rattle.std.proofs.Common.{map, sym, ap, subst, ◌∙◌}
use Rattle.std.proofs.lemmas.List.{take_all}
use Rattle.ti_base.specs.declared.point.Rect.{Rect}
use Rattle.ti_base.specs.Ranges.{IsOn}
use Rattle.ti_base.specs.Rects.{IsIn}
use Rattle.ti_rect.specs.declared.axis.Axis.{Axis}
use Rattle.ti_rect.specs.Axes.{range}
use Rattle.ti_rect.specs.Parts.{IsOff, AreParts}
use Rattle.ti_domain.specs.Pieces.{ArePiecesOf}
use Rattle.ti_domain.specs.Slabs.{coordinate_of, range_at, with_range}
use Rattle.ti_domain.proofs.SlabLaws.{slab_pieces}
use Rattle.ti_domain.proofs.cut.slabs.Goals as goal

pub returns : goal.returns
returns c =
    let r = c.args.rect.now in
    let k = c.args.coordinate in
    let out = range c.args.removed in
    let parts = c.in_ok-parts.parts.items in
    let f : Axis → Rect = λ g. with_range k (range g) r in
    let cover : AreParts parts (IsOff (range_at k r) out) = subst (λ q. AreParts parts (IsOff q out)) c.axis_at.ensures c.in_ok-parts.ensures in
    let all = c.loop-part.invariant ∙ ap (map f) (take_all c.loop-part.part-index c.deref-part-items.result.now c.loop-part-test.false ∙ c.deref-part-items.ensures.value) in
    subst (λ l. ArePiecesOf r.dim l (λ p. IsIn r p × (IsOn out (coordinate_of k p) → ⊥))) (sym all) (slab_pieces r.dim r c.requires.piece k out parts cover)
