use Rattle.ti_infer.proofs.Descending.{union_keeps}
use Rattle.ti_infer.proofs.laws.union_keeps_single_rules.Goals as goal

pub returns : goal.returns
returns c = union_keeps
