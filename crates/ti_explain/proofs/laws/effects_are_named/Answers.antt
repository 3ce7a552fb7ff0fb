use Rattle.ti_explain.proofs.NamedLaws.{effect_named}
use Rattle.ti_explain.proofs.laws.effects_are_named.Goals as goal

pub returns : goal.returns
returns c = effect_named
