use Rattle.std.proofs.Common.{◌≡◌, ◌++◌, sym, ap, subst, ◌∙◌}
use Rattle.std.proofs.lemmas.Result.{IfOk-weaker}
use Rattle.ti_base.specs.declared.point.Rect.{Rect}
use Rattle.ti_base.specs.Ranges.{IsOn}
use Rattle.ti_base.specs.Rects.{IsIn, first_range, second_range, third_range}
use Rattle.ti_rect.specs.Axes.{range}
use Rattle.ti_domain.specs.declared.cut.Coordinate.TheVariants.{First, Second}
use Rattle.ti_domain.specs.Pieces.{IsNonEmptyRect, ArePiecesOf}
use Rattle.ti_domain.specs.Slabs.{with_range}
use Rattle.ti_domain.proofs.SlabLaws.{inside_first, inside_second, inside_third, the_plane, the_row, row_piece, cut_pieces}
use Rattle.ti_domain.proofs.cut.cut.Goals as goal
use Rattle.ti_domain.proofs.cut.cut.Goals.{After-with_second-row}

plane_is : (c : After-with_second-row) → c.with_first-plane.result ≡ the_plane c.args.rect.now.dim c.args.rect.now c.args.removed.now c.requires.whole c.requires.part c.requires.inside
plane_is c = c.with_first-plane.ensures ∙ ap (λ q. with_range First q c.args.rect.now) c.first-x.ensures

row_is : (c : After-with_second-row) → c.with_second-row.result ≡ the_row c.args.rect.now.dim c.args.rect.now c.args.removed.now c.requires.whole c.requires.part c.requires.inside
row_is c = c.with_second-row.ensures ∙ (λ i. with_range Second (c.second-y.ensures i) (plane_is c i))

pub slabs-requires-clause-inside : goal.slabs-requires-clause-inside
slabs-requires-clause-inside c = λ x o.
    inside_first c.args.rect.now.dim c.args.rect.now c.args.removed.now c.requires.whole c.requires.part c.requires.inside x (subst (λ q. IsOn q x) c.first-x.ensures o)

pub slabs-requires-2-clause-inside : goal.slabs-requires-2-clause-inside
slabs-requires-2-clause-inside c = λ x o.
    subst (λ q. IsOn (second_range q) x) (sym (plane_is (goal.at.slabs-requires-2-clause-inside c).After-with_second-row))
    (inside_second c.args.rect.now.dim c.args.rect.now c.args.removed.now c.requires.whole c.requires.part c.requires.inside x (subst (λ q. IsOn q x) c.second-y.ensures o))

pub slabs-requires-3-clause-piece : goal.slabs-requires-3-clause-piece
slabs-requires-3-clause-piece c =
    subst (λ (q : Rect). IsNonEmptyRect q.dim q) (sym (row_is (goal.at.slabs-requires-3-clause-piece c).After-with_second-row))
    (row_piece c.args.rect.now.dim c.args.rect.now c.args.removed.now c.requires.whole c.requires.part c.requires.inside)

pub slabs-requires-3-clause-inside : goal.slabs-requires-3-clause-inside
slabs-requires-3-clause-inside c = λ x o.
    subst (λ q. IsOn (third_range q) x) (sym (row_is (goal.at.slabs-requires-3-clause-inside c).After-with_second-row))
    (inside_third c.args.rect.now.dim c.args.rect.now c.args.removed.now c.requires.whole c.requires.part c.requires.inside x (subst (λ q. IsOn q x) c.third-z.ensures o))

pub returns : goal.returns
returns c =
    let r = c.args.rect.now in
    let m = c.args.removed.now in
    let planes = c.in_ok-planes.planes.items in
    let rows = c.in_ok-rows.rows.items in
    let points = c.in_ok-points.points.items in
    let a : ArePiecesOf r.dim planes (λ p. IsIn r p × (IsOn (first_range m) p.x1 → ⊥)) =
    subst (λ q. ArePiecesOf r.dim planes (λ p. IsIn r p × (IsOn q p.x1 → ⊥))) c.first-x.ensures c.in_ok-planes.ensures in
    let plane = the_plane r.dim r m c.requires.whole c.requires.part c.requires.inside in
    let b : ArePiecesOf r.dim rows (λ p. IsIn plane p × (IsOn (second_range m) p.x2 → ⊥)) =
    subst (λ q. ArePiecesOf r.dim rows (λ p. IsIn plane p × (IsOn q p.x2 → ⊥))) c.second-y.ensures
    (subst (λ (s : Rect). ArePiecesOf s.dim rows (λ p. IsIn s p × (IsOn (range c.second-y.result) p.x2 → ⊥))) (plane_is (goal.at.returns c).After-with_second-row) c.in_ok-rows.ensures) in
    let row = the_row r.dim r m c.requires.whole c.requires.part c.requires.inside in
    let d : ArePiecesOf r.dim points (λ p. IsIn row p × (IsOn (third_range m) p.x3 → ⊥)) =
    subst (λ q. ArePiecesOf r.dim points (λ p. IsIn row p × (IsOn q p.x3 → ⊥))) c.third-z.ensures
    (subst (λ (s : Rect). ArePiecesOf s.dim points (λ p. IsIn s p × (IsOn (range c.third-z.result) p.x3 → ⊥))) (row_is (goal.at.returns c).After-with_second-row) c.in_ok-points.ensures) in
    let lists : c.in_ok-more.more.items ++ c.as_slice-2.result.now ≡ (planes ++ rows) ++ points =
    λ i. (c.in_ok-more.ensures ∙ ap (λ l. planes ++ l) c.as_slice.ensures.value) i ++ c.as_slice-2.ensures.value i in
    IfOk-weaker c.append_rects-2.result (λ v. v.items ≡ c.in_ok-more.more.items ++ c.as_slice-2.result.now) (λ v. ArePiecesOf r.dim v.items (λ p. IsIn r p × (IsIn m p → ⊥)))
    (λ v e. subst (λ l. ArePiecesOf r.dim l (λ p. IsIn r p × (IsIn m p → ⊥))) (sym (e ∙ lists))
    (cut_pieces r.dim r m c.requires.whole c.requires.part c.requires.inside planes rows points a b d))
    c.append_rects-2.ensures
