use Rattle.std.proofs.Common.{ap, ◌∙◌}
use Rattle.std.specs.Map.{lookup}
use Rattle.ti_lang.specs.Mirrors.Indices.{same_key}
use Rattle.ti_lang.proofs.Indices.{field_told}
use Rattle.ti_lang.proofs.program.classes.ProgramData.first_field.Goals as goal

pub returns : goal.returns
returns c = c.get.ensures ∙ ap (lookup (same_key (c.args.class, c.args.name))) c.args.self.now.fields_told ∙ field_told c.args.self.now c.args.class c.args.name
