use Rattle.ti_lang.proofs.MeaningLaws.Steps.{after_same}
use Rattle.ti_lang.proofs.meaning.process_laws.one_process.Goals as goal

pub returns : goal.returns
returns c = after_same
