use Rattle.ti_infer.proofs.Twice.{stripped_twice}
use Rattle.ti_infer.proofs.laws.stripped_once.Goals as goal

pub returns : goal.returns
returns c = stripped_twice
