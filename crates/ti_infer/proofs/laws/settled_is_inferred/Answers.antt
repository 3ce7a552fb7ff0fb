use Rattle.ti_infer.proofs.Inferring.{inferred}
use Rattle.ti_infer.proofs.laws.settled_is_inferred.Goals as goal

pub returns : goal.returns
returns c = inferred
