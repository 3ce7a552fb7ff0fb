use Rattle.ti_lang.proofs.MeaningLaws.Running.{decided}
use Rattle.ti_lang.proofs.meaning.run_laws.one_run.Goals as goal

pub returns : goal.returns
returns c = decided
