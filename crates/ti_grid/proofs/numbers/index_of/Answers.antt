use Rattle.std.proofs.Common.{◌≡◌, ℕ, ◌<◌, true, false, Option, Some, IfSome, sym, ap, subst, ◌∙◌}
use Rattle.ti_base.specs.Rects.{IsIn}
use Rattle.ti_grid.specs.declared.layout.Layout.{Layout}
use Rattle.ti_grid.specs.Views.{IsLaid, cell_number}
use Rattle.ti_grid.proofs.SeenLaws.{cell_at, no_cell, differ}
use Rattle.ti_grid.proofs.numbers.index_of.Goals as goal
use Rattle.ti_grid.proofs.numbers.index_of.Goals.{After-number}

found : (c : After-number) → Some c.number.result ≡ cell_number c.args.view.now c.args.point.now
found c =
    let p = c.args.point.now in
    let l = c.layout-l.result in
    ap Some c.number.ensures.value ∙ sym (cell_at l p c.layout-l.ensures.laid.form (c.rect_contains.ensures.0 c.if-rect_contains.true))
    ∙ ap (λ (v : Layout). cell_number v p) c.layout-l.ensures.value

pub returns-then-rect_contains-clause-value : goal.returns-then-rect_contains-clause-value
returns-then-rect_contains-clause-value c = found c

pub returns-then-rect_contains-clause-below : goal.returns-then-rect_contains-clause-below
returns-then-rect_contains-clause-below c = λ n h. subst (λ (o : Option ℕ). IfSome o (λ i. i < n)) (sym (found c)) (h c.args.point.now)

pub returns-then-rect_contains-clause-differ : goal.returns-then-rect_contains-clause-differ
returns-then-rect_contains-clause-differ c = λ q e.
    differ c.args.view.now (subst IsLaid c.layout-l.ensures.value c.layout-l.ensures.laid) q c.args.point.now c.number.result e (sym (found c))

pub returns-else-rect_contains-clause-value : goal.returns-else-rect_contains-clause-value
returns-else-rect_contains-clause-value c =
    let p = c.args.point.now in
    let out : IsIn c.layout-l.result.dom p → ⊥ = λ w. let t = c.rect_contains.ensures.1 w in let f = c.if-rect_contains.false in let e : true ≡ false = sym t ∙ f in cc in
    sym (no_cell c.layout-l.result p c.layout-l.ensures.laid.form out) ∙ ap (λ (v : Layout). cell_number v p) c.layout-l.ensures.value
