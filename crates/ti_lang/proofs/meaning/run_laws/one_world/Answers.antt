use Rattle.ti_lang.proofs.MeaningLaws.Running.{world_same}
use Rattle.ti_lang.proofs.meaning.run_laws.one_world.Goals as goal

pub returns : goal.returns
returns c = world_same
