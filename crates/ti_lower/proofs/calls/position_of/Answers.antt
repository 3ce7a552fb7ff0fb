use Rattle.std.proofs.Common.{◌==◌, ◌&&◌, length, ap, sym, ◌∙◌}
use Rattle.std.proofs.lemmas.List.{length-map}
use Rattle.ti_lang.specs.Program.Classes.{NumberedMethod}
use Rattle.ti_lang.specs.Program.Views.{program_of, numbered_method_of}
use Rattle.ti_lower.proofs.FirstPlaces.{place_found, no_place}
use Rattle.ti_lower.proofs.calls.position_of.Goals as goal

pub returns-in-Some : goal.returns-in-Some
returns-in-Some c =
    place_found (λ (m : NumberedMethod). (m.class == c.args.class) && (m.name == c.args.name)) (program_of c.args.program.now).methods c.in-Some.number (sym c.first_method.ensures ∙ c.in-Some.is)

pub returns-in-None : goal.returns-in-None
returns-in-None c =
    c.how_many.ensures ∙ ap length c.deref.ensures.value ∙ sym (length-map c.args.program.now.methods.items numbered_method_of)
    ∙ no_place (λ (m : NumberedMethod). (m.class == c.args.class) && (m.name == c.args.name)) (program_of c.args.program.now).methods (sym c.first_method.ensures ∙ c.in-None.is)
