use Rattle.ti_lang.proofs.MeaningLaws.Running.{fronts}
use Rattle.ti_lang.proofs.meaning.run_laws.fronts_are_runs.Goals as goal

pub returns : goal.returns
returns c = fronts
