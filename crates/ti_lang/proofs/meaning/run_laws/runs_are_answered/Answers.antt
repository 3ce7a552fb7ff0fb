use Rattle.ti_lang.proofs.MeaningLaws.Running.{run_answered}
use Rattle.ti_lang.proofs.meaning.run_laws.runs_are_answered.Goals as goal

pub returns : goal.returns
returns c = run_answered
