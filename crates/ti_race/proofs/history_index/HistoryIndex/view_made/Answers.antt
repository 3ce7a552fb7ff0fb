use Rattle.std.proofs.Common.{◌∙◌, ap, sym, subst, Some}
use Rattle.ti_lang.specs.Meaning.Spots as spec
use Rattle.std.specs.HashMap.{get}
use Rattle.ti_race.specs.declared.spots.IdKey.{IdKey}
use Rattle.ti_race.specs.contracts.spots.IdKeyPartialEq.TheImpl as name_eq
use Rattle.ti_race.specs.Mirrors.HistoryIndex.{IsLayoutIn, lying_in}
use Rattle.ti_race.proofs.Seen.{true_false}
use Rattle.ti_race.proofs.IndexedObjects.{view_tested, formless_view, told_view}
use Rattle.ti_race.proofs.history_index.HistoryIndex.view_made.Goals as goal

pub returns-then-not-is_view : goal.returns-then-not-is_view
returns-then-not-is_view c h tells =
    formless_view h c.args.how (spec.grid_told c.args.grid h) (view_tested c.args.how c.forms_are_told.ensures.points
    c.forms_are_told.ensures.rects) (λ f. true_false (sym (c.is_view.ensures.1 f) ∙ c.if-not-is_view.true))

pub returns-in-Some-Some : goal.returns-in-Some-Some
returns-in-Some-Some c h tells =
    told_view h c.args.how c.in-Some-Some.lying (spec.grid_told c.args.grid h) c.view_layout.result (view_tested c.args.how c.forms_are_told.ensures.points c.forms_are_told.ensures.rects)
    (c.is_view.ensures.0 c.if-not-is_view.false)
    (subst (λ l. IsLayoutIn h l (spec.grid_told c.args.grid h)) (ap lying_in
    (ap (λ (k : IdKey). get (name_eq.ghosts).eq c.args.self.now.grids k) (sym c.id_key.ensures) ∙ sym c.in-Some-Some.ensures.value
    ∙ ap (λ l. Some l) c.in-Some-Some.field-0-is)) (tells c.args.grid)) c.view_layout.ensures
