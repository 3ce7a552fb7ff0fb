use Rattle.std.proofs.lemmas.Int.{to_z-of_z}
use Rattle.std.proofs.Common.{rules, ap₂, to_z, of_z, w32, ap, ◌∙◌, sym, subst, Some, None, ◌≤◌, ◌<◌}
use Rattle.ti_base.specs.declared.point.Rect.{Rect}
use Rattle.ti_base.specs.declared.action.ViewHow.TheVariants.{Translate, Slice}
use Rattle.ti_race.specs.Mirrors.GridLayout.{SeenIf}
use Rattle.ti_race.proofs.Seen.{unsuited, dims_differ, dims_same, two_dims, one_dim, restricted, by_result}
use Rattle.ti_race.proofs.grid_layout.view_by.Goals as goal

pub returns-then-r-dim : goal.returns-then-r-dim
returns-then-r-dim c =
    subst (λ how. SeenIf how c.args.view.now (Some c.view_restrict.result)) (sym c.in-Restrict.is)
    (restricted c.in-Restrict.r c.args.view.now c.view_restrict.result (c.if-r-dim.true ∙ ap (λ (r : Rect). r.dim) c.domain-dim.ensures.value) c.domain-dim.ensures.form c.view_restrict.ensures)

pub returns-then-by-dim : goal.returns-then-by-dim
returns-then-by-dim c =
    subst (λ how. SeenIf how c.args.view.now c.ok.result) (sym c.in-Translate.is)
    (by_result (Translate c.in-Translate.by) c.args.view.now c.view_translate.result c.ok.result c.ok.ensures.value c.view_translate.ensures.fault
    (dims_same _ _ (c.if-by-dim.true ∙ ap (λ (r : Rect). r.dim) c.domain-dim.ensures.value)) c.view_translate.ensures.view c.domain-dim.ensures.form)

pub returns-else-by-dim : goal.returns-else-by-dim
returns-else-by-dim c =
    subst (λ how. SeenIf how c.args.view.now None) (sym c.in-Translate.is)
    (unsuited (Translate c.in-Translate.by) c.args.view.now.dom (dims_differ _ _ (λ z. c.if-by-dim.false (z ∙ sym (ap (λ (r : Rect). r.dim) c.domain-dim.ensures.value)))))

pub returns-then-dim-ge2 : goal.returns-then-dim-ge2
returns-then-dim-ge2 c =
    let k = to_z-of_z w32 c.in-Slice.k (search rules) in
    let j = to_z-of_z w32 c.in-Slice.j (search rules) in
    subst (λ how. SeenIf how c.args.view.now c.ok-then-dim-ge2.result) (ap₂ Slice k j ∙ sym c.in-Slice.is)
    (by_result (Slice (to_z w32 (of_z w32 c.in-Slice.k)) (to_z w32 (of_z w32 c.in-Slice.j))) c.args.view.now c.view_slice.result
    c.ok-then-dim-ge2.result c.ok-then-dim-ge2.ensures.value c.view_slice.ensures.fault
    (two_dims _ (subst (λ (r : Rect). 2 ≤ r.dim) c.domain-dim.ensures.value c.if-dim-ge2.true)) c.view_slice.ensures.view c.domain-dim.ensures.form)

pub returns-else-dim-ge2 : goal.returns-else-dim-ge2
returns-else-dim-ge2 c =
    subst (λ how. SeenIf how c.args.view.now None) (sym c.in-Slice.is)
    (unsuited (Slice c.in-Slice.k c.in-Slice.j) c.args.view.now.dom (one_dim _ (subst (λ (r : Rect). r.dim < 2) c.domain-dim.ensures.value c.if-dim-ge2.false)))
