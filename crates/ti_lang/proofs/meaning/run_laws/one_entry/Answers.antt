use Rattle.ti_lang.proofs.MeaningLaws.Running.{entry_same}
use Rattle.ti_lang.proofs.meaning.run_laws.one_entry.Goals as goal

pub returns : goal.returns
returns c = entry_same
