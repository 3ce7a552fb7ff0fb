use Rattle.std.proofs.Common.{◌≡◌, Bool, false, if◌then◌else◌, Some, None, refl, sym, ap, subst₂, ◌∙◌}
use Rattle.std.proofs.lemmas.Bool.{eq-eqb, false_from_ne_true}
use Rattle.ti_base.specs.declared.point.Point.{Point}
use Rattle.ti_base.specs.declared.action.ViewHow.TheVariants.{Translate}
use Rattle.ti_base.specs.declared.fault.FaultKind.TheVariants.{Range}
use Rattle.ti_base.specs.Points.{moved_back}
use Rattle.ti_base.specs.Rects.{IsRect, IsIn, translate_rect}
use Rattle.ti_base.specs.Cells.{leaves, view_fault}
use Rattle.ti_rect.proofs.Lemmas.{full, none_in, leaves_tests, view_inside}
use Rattle.ti_grid.specs.declared.layout.Layout.{Layout}
use Rattle.ti_grid.specs.Mirrors.Numbers.{cell_index}
use Rattle.ti_grid.specs.Views.{IsSeen}
use Rattle.ti_grid.proofs.SeenLaws.{is_laid, is_seen, moved_number, moved_apart}
use Rattle.ti_grid.proofs.translate.view_translate.Goals as goal
use Rattle.ti_grid.proofs.translate.view_translate.Goals.{In-Ok}

stays : (c : In-Ok) → leaves c.layout-l.result.dom c.args.point.now ≡ false
stays c = false_from_ne_true (leaves c.layout-l.result.dom c.args.point.now)
    (λ t. let e = c.in-Ok.ensures.range.1 ((leaves_tests c.layout-l.result.dom c.args.point.now c.layout-l.ensures.laid.form).0 t) in cc)

viewed : (c : In-Ok) → IsRect (translate_rect c.layout-l.result.dom c.args.point.now)
    × ((q : Point) → IsIn (translate_rect c.layout-l.result.dom c.args.point.now) q → IsIn c.layout-l.result.dom (moved_back q c.args.point.now))
viewed c =
    let same = c.requires.dim ∙ sym (ap (λ (v : Layout). v.dom.dim) c.layout-l.ensures.value) in
    view_inside (Translate c.args.point.now) c.layout-l.result.dom c.layout-l.ensures.laid.form c.requires.by (eq-eqb c.args.point.now.dim c.layout-l.result.dom.dim same)
    (ap (λ (t : Bool). if t then Some Range else None) (stays c))

numbers : (c : In-Ok) (q : Point) → IsIn (translate_rect c.layout-l.result.dom c.args.point.now) q
    → cell_index (record c.layout-l.result { dom = c.in-Ok.dom }) q ≡ cell_index c.layout-l.result (moved_back q c.args.point.now)
numbers c q w =
    let l = c.layout-l.result in
    let h = full l.dom c.layout-l.ensures.laid.form (λ e. none_in l.dom e (moved_back q c.args.point.now) ((viewed c).1 q w)) in
    moved_number l c.in-Ok.dom c.args.point.now q h c.in-Ok.ensures.value

pub view_from_layout-requires : goal.view_from_layout-requires
view_from_layout-requires c =
    let l = c.layout-l.result in
    let a = (goal.at.view_from_layout-requires c).In-Ok in
    let v = viewed a in
    is_laid (Translate c.args.point.now) l (record l { dom = c.in-Ok.dom }) c.layout-l.ensures.laid refl c.in-Ok.ensures.value v.0 v.1 (numbers a) (λ p q w x e. moved_apart p q c.args.point.now e)

pub returns-in-Ok-clause-fault : goal.returns-in-Ok-clause-fault
returns-in-Ok-clause-fault c =
    sym (ap (λ (t : Bool). if t then Some Range else None) (stays (goal.at.returns-in-Ok-clause-fault c).In-Ok))
    ∙ ap (λ (v : Layout). view_fault (Translate c.args.point.now) v.dom) c.layout-l.ensures.value

pub returns-in-Ok-clause-view : goal.returns-in-Ok-clause-view
returns-in-Ok-clause-view c =
    let l = c.layout-l.result in
    let a = (goal.at.returns-in-Ok-clause-view c).In-Ok in
    let v = viewed a in
    subst₂ (IsSeen (Translate c.args.point.now)) c.layout-l.ensures.value (sym c.view_from_layout.ensures)
    (is_seen (Translate c.args.point.now) l (record l { dom = c.in-Ok.dom }) c.layout-l.ensures.laid refl c.in-Ok.ensures.value v.0 v.1 (numbers a))

pub returns-in-Err-clause-fault : goal.returns-in-Err-clause-fault
returns-in-Err-clause-fault c =
    let t = (leaves_tests c.layout-l.result.dom c.args.point.now c.layout-l.ensures.laid.form).1 (c.in-Err.ensures.range.0 refl) in
    sym (ap (λ (t : Bool). if t then Some Range else None) t) ∙ ap (λ (v : Layout). view_fault (Translate c.args.point.now) v.dom) c.layout-l.ensures.value
