use Rattle.ti_blame.proofs.Chaining.{chain_out}
use Rattle.ti_blame.proofs.chains.chains_rule_out.Goals as goal

pub returns : goal.returns
returns c = chain_out
