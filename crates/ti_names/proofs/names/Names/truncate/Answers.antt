use Rattle.std.proofs.Common.{ap, ◌∙◌, take}
use Rattle.ti_names.proofs.Entries.{seen, take_seen}
use Rattle.ti_names.proofs.names.Names.truncate.Goals as goal

pub returns : goal.returns
returns g c = ap seen c.truncate.ensures.entries ∙ take_seen c.args.len c.self.inside.map.entries ∙ ap (take c.args.len) c.self.view_is
