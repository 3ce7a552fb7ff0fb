use Rattle.ti_rows.proofs.Simulated.{solo_run}
use Rattle.ti_rows.proofs.simulation.simulates.Goals as goal

pub returns : goal.returns
returns c = solo_run
