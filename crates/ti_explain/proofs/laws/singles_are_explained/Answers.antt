use Rattle.ti_explain.proofs.SingleLaws.{singles_caused}
use Rattle.ti_explain.proofs.laws.singles_are_explained.Goals as goal

pub returns : goal.returns
returns c = singles_caused
