use Rattle.std.proofs.Common.{◌≡◌, true, refl, sym, ap, subst, subst₂, ◌∙◌}
use Rattle.std.proofs.lemmas.Bool.{eq-eqb}
use Rattle.ti_base.specs.declared.point.Point.{Point}
use Rattle.ti_base.specs.declared.point.Rect.{Rect}
use Rattle.ti_base.specs.declared.action.ViewHow.TheVariants.{Restrict}
use Rattle.ti_base.specs.Rects.{IsRect, IsIn, meet}
use Rattle.ti_rect.proofs.Lemmas.{none_in, view_inside}
use Rattle.ti_grid.specs.declared.layout.Layout.{Layout}
use Rattle.ti_grid.specs.Mirrors.Numbers.{cell_index}
use Rattle.ti_grid.specs.Views.{IsSeen}
use Rattle.ti_grid.proofs.SeenLaws.{is_laid, is_seen}
use Rattle.ti_grid.proofs.restrict.view_restrict.Goals as goal
use Rattle.ti_grid.proofs.restrict.view_restrict.Goals.{After-is_empty, After-restrict_layout}

viewed : (c : After-is_empty) → IsRect (meet c.layout-l.result.dom c.args.rect.now) × ((p : Point) → IsIn (meet c.layout-l.result.dom c.args.rect.now) p → IsIn c.layout-l.result.dom p)
viewed c =
    let same = c.requires.dim ∙ sym (ap (λ (v : Layout). v.dom.dim) c.layout-l.ensures.value) in
    view_inside (Restrict c.args.rect.now) c.layout-l.result.dom c.layout-l.ensures.laid.form c.requires.form (eq-eqb c.args.rect.now.dim c.layout-l.result.dom.dim same) refl

-- nothing is there where the meet is empty
nothing : (c : After-is_empty) → c.is_empty.result ≡ true → (p : Point) → IsIn (meet c.layout-l.result.dom c.args.rect.now) p
    → cell_index (record c.layout-l.result { dom = c.rect_meet-dom.result }) p ≡ cell_index c.layout-l.result p
nothing c t p w = absurd (none_in c.rect_meet-dom.result (c.is_empty.ensures.0 t) p (subst (λ (r : Rect). IsIn r p) (sym c.rect_meet-dom.ensures.value) w))

kept : (c : After-restrict_layout) → (p : Point) → IsIn (meet c.layout-l.result.dom c.args.rect.now) p → cell_index c.restrict_layout.result p ≡ cell_index c.layout-l.result p
kept c p w = c.restrict_layout.ensures.numbers p (subst (λ (r : Rect). IsIn r p) (sym c.rect_meet-dom.ensures.value) w)

pub view_from_layout-requires : goal.view_from_layout-requires
view_from_layout-requires c =
    let l = c.layout-l.result in
    let a = (goal.at.view_from_layout-requires c).After-is_empty in
    let v = viewed a in
    is_laid (Restrict c.args.rect.now) l (record l { dom = c.rect_meet-dom.result }) c.layout-l.ensures.laid refl c.rect_meet-dom.ensures.value v.0 v.1 (nothing a c.if-is_empty.true) (λ p q w x e. e)

pub returns-then-is_empty : goal.returns-then-is_empty
returns-then-is_empty c =
    let l = c.layout-l.result in
    let a = (goal.at.returns-then-is_empty c).After-is_empty in
    let v = viewed a in
    subst₂ (IsSeen (Restrict c.args.rect.now)) c.layout-l.ensures.value (sym c.view_from_layout.ensures)
    (is_seen (Restrict c.args.rect.now) l (record l { dom = c.rect_meet-dom.result }) c.layout-l.ensures.laid refl c.rect_meet-dom.ensures.value v.0 v.1 (nothing a c.if-is_empty.true))

pub restrict_layout-requires-clause-inside : goal.restrict_layout-requires-clause-inside
restrict_layout-requires-clause-inside c = λ p w. ((c.rect_meet-dom.ensures.points p).0 w).0

pub view_from_layout-requires-2 : goal.view_from_layout-requires-2
view_from_layout-requires-2 c =
    let l = c.layout-l.result in
    let v = viewed (goal.at.view_from_layout-requires-2 c).After-is_empty in
    is_laid (Restrict c.args.rect.now) l c.restrict_layout.result c.layout-l.ensures.laid c.restrict_layout.ensures.block (c.restrict_layout.ensures.domain ∙ c.rect_meet-dom.ensures.value) v.0 v.1
    (kept (goal.at.view_from_layout-requires-2 c).After-restrict_layout) (λ p q w x e. e)

pub returns : goal.returns
returns c =
    let l = c.layout-l.result in
    let v = viewed (goal.at.returns c).After-is_empty in
    subst₂ (IsSeen (Restrict c.args.rect.now)) c.layout-l.ensures.value (sym c.view_from_layout-2.ensures)
    (is_seen (Restrict c.args.rect.now) l c.restrict_layout.result c.layout-l.ensures.laid c.restrict_layout.ensures.block (c.restrict_layout.ensures.domain ∙ c.rect_meet-dom.ensures.value) v.0 v.1
    (kept (goal.at.returns c).After-restrict_layout))
