use Rattle.std.proofs.Common.{◌≡◌, ◌==◌, List, Some, None, position, slice_get, option_and_then, ap, sym, ◌∙◌}
use Rattle.ti_lang.specs.Program.Classes.{NumberedField}
use Rattle.ti_lang.specs.Program.Views.{program_of}
use Rattle.ti_lang.specs.Typing.Declared.{fields_of_class}
use Rattle.ti_lang.proofs.Indices.{found_at}
use Rattle.ti_lang.proofs.typing.lookup.field_named.Goals as goal

pub returns-in-None : goal.returns-in-None
returns-in-None c =
    let fields : List NumberedField = fields_of_class (program_of c.args.program.now) c.args.class in
    let none : None ≡ position (λ (f : NumberedField). f.name == c.args.name) fields = sym c.in-None.is ∙ c.first_field.ensures in
    ap (option_and_then (slice_get fields)) none ∙ found_at (λ (f : NumberedField). f.name == c.args.name) fields

pub returns-in-Some : goal.returns-in-Some
returns-in-Some c =
    let fields : List NumberedField = fields_of_class (program_of c.args.program.now) c.args.class in
    let some : Some c.in-Some.number ≡ position (λ (f : NumberedField). f.name == c.args.name) fields = sym c.in-Some.is ∙ c.first_field.ensures in
    c.field_at.ensures ∙ ap (λ l. slice_get l c.in-Some.number) c.fields_of.ensures
    ∙ ap (option_and_then (slice_get fields)) some ∙ found_at (λ (f : NumberedField). f.name == c.args.name) fields
