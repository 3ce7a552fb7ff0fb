use Rattle.std.specs.Str.{bytes_eq}
use Rattle.ti_names.proofs.Lists.{variable_seen}
use Rattle.ti_names.proofs.context.NameContext.variable.Goals as goal

pub returns : goal.returns
returns c = variable_seen c.get.result c.args.self.now.scope (bytes_eq c.args.name.now) c.get.ensures
