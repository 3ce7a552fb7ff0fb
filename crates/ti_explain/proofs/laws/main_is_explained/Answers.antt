use Rattle.ti_explain.proofs.NameLaws.{main_named}
use Rattle.ti_explain.proofs.laws.main_is_explained.Goals as goal

pub returns : goal.returns
returns c = main_named
