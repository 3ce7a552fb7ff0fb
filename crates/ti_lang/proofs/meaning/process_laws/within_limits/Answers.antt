use Rattle.ti_lang.proofs.MeaningLaws.Limits.{within}
use Rattle.ti_lang.proofs.meaning.process_laws.within_limits.Goals as goal

pub returns : goal.returns
returns c = within
