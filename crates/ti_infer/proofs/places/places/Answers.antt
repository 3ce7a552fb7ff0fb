use Rattle.std.proofs.Common.{List, Option, ap, ◌∙◌, subst}
use Rattle.ti_base.specs.declared.place.Place.{Place}
use Rattle.ti_lang.specs.Program.Classes.{NumberedParam}
use Rattle.ti_lang.specs.Program.Statements.{numbered_stms}
use Rattle.ti_lang.specs.Program.Views.{numbered_method_of}
use Rattle.ti_infer.specs.declared.local.Local.{Local}
use Rattle.ti_infer.specs.Mirrors.Locals.{locals_in_all, place_among}
use Rattle.ti_infer.specs.Mirrors.Places.{places_of_params, AreAdded}
use Rattle.ti_infer.proofs.Placing.{all_placed}
use Rattle.ti_infer.proofs.places.places.Goals as goal

pub returns : goal.returns
returns c =
    let m = numbered_method_of c.args.method.now in
    let new = c.note_all.new.places.items in
    all_placed m new
    (subst (λ (old : List (Option Place)). AreAdded old new (place_among (locals_in_all (numbered_stms m.body)))) (c.in_ok-found.ensures
    ∙ ap (λ (ws : List NumberedParam). places_of_params ws) c.listed_params.ensures)
    (subst (λ (ls : List Local). AreAdded c.in_ok-found.found.items new (place_among ls)) (c.deref.ensures.value ∙ c.in_ok-declared.ensures) c.in_ok-note_all.ensures))
