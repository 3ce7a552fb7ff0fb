use Rattle.ti_rules.proofs.Sound.Expressions.{has_type}
use Rattle.ti_rules.proofs.laws.typed_where_unbroken.Goals as goal

pub returns : goal.returns
returns c = has_type
