use Rattle.std.proofs.Common.{◌∙◌}
use Rattle.ti_race.proofs.Noting.{racing_all}
use Rattle.ti_race.proofs.table.racing_of.Goals as goal

pub returns : goal.returns
returns c = c.in_ok-racing.ensures ∙ racing_all c.in_ok-table.table c.args.uses.now c.args.uses.now c.in_ok-table.ensures
