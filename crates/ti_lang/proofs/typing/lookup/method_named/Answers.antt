use Rattle.std.proofs.Common.{◌≡◌, ◌==◌, ◌&&◌, List, Some, None, map, position, slice_get, option_and_then, ap, sym, ◌∙◌}
use Rattle.ti_lang.specs.Program.Classes.{NumberedMethod}
use Rattle.ti_lang.specs.Program.Views.{program_of, numbered_method_of}
use Rattle.ti_lang.proofs.Indices.{found_at}
use Rattle.ti_lang.proofs.typing.lookup.method_named.Goals as goal

pub returns-in-None : goal.returns-in-None
returns-in-None c =
    let methods : List NumberedMethod = (program_of c.args.program.now).methods in
    let none : None ≡ position (λ (m : NumberedMethod). (m.class == c.args.class) && (m.name == c.args.name)) methods = sym c.in-None.is ∙ c.first_method.ensures in
    ap (option_and_then (slice_get methods)) none ∙ found_at (λ (m : NumberedMethod). (m.class == c.args.class) && (m.name == c.args.name)) methods

pub returns-in-Some : goal.returns-in-Some
returns-in-Some c =
    let methods : List NumberedMethod = (program_of c.args.program.now).methods in
    let some : Some c.in-Some.number ≡ position (λ (m : NumberedMethod). (m.class == c.args.class) && (m.name == c.args.name)) methods = sym c.in-Some.is ∙ c.first_method.ensures in
    c.method_at.ensures ∙ ap (λ l. slice_get (map numbered_method_of l) c.in-Some.number) c.deref.ensures.value
    ∙ ap (option_and_then (slice_get methods)) some ∙ found_at (λ (m : NumberedMethod). (m.class == c.args.class) && (m.name == c.args.name)) methods
