use Rattle.std.proofs.Common.{ap, ◌∙◌}
use Rattle.std.specs.Map.{lookup}
use Rattle.std.specs.Str.{bytes_eq}
use Rattle.ti_names.proofs.Entries.{lookup_seen}
use Rattle.ti_names.proofs.names.Names.get.Goals as goal

pub returns : goal.returns
returns g c = c.get.ensures.value ∙ lookup_seen (bytes_eq c.args.name.now) c.self.inside.map.entries ∙ ap (lookup (bytes_eq c.args.name.now)) c.self.view_is
