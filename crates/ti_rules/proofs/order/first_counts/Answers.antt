use Rattle.ti_rules.proofs.First.{first_is, first_none, first_append}
use Rattle.ti_rules.proofs.order.first_counts.Goals as goal

pub returns : goal.returns
returns c = record { some = first_is; none = first_none; joined = first_append }
