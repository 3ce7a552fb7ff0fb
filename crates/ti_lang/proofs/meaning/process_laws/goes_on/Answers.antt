use Rattle.ti_lang.proofs.MeaningLaws.Running.{goes_on, only_acts}
use Rattle.ti_lang.proofs.MeaningLaws.Costs.{after_pays}
use Rattle.ti_lang.proofs.meaning.process_laws.goes_on.Goals as goal

pub returns-clause-acts : goal.returns-clause-acts
returns-clause-acts c = goes_on

pub returns-clause-only_acts : goal.returns-clause-only_acts
returns-clause-only_acts c = only_acts

pub returns-clause-costs : goal.returns-clause-costs
returns-clause-costs c = after_pays
