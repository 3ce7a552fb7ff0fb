use Rattle.std.proofs.Common.{ap, ◌∙◌}
use Rattle.std.specs.Map.{lookup}
use Rattle.ti_lang.specs.Mirrors.Indices.{same_key}
use Rattle.ti_lang.proofs.Indices.{method_told}
use Rattle.ti_lang.proofs.program.classes.ProgramData.first_method.Goals as goal

pub returns : goal.returns
returns c = c.get.ensures ∙ ap (lookup (same_key (c.args.class, c.args.name))) c.args.self.now.methods_told ∙ method_told c.args.self.now.methods.items c.args.class c.args.name
