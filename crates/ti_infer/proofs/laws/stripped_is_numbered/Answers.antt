use Rattle.ti_infer.proofs.Stripping.{stripped_numbered}
use Rattle.ti_infer.proofs.laws.stripped_is_numbered.Goals as goal

pub returns : goal.returns
returns c = stripped_numbered
