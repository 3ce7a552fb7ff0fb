use Rattle.ti_base.proofs.WholeLaws.{rounds}
use Rattle.ti_base.proofs.whole.rounds_down.Goals as goal

pub returns : goal.returns
returns c = rounds
