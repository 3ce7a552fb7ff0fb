use Rattle.ti_lang.proofs.MeaningLaws.Steps.{next_same}
use Rattle.ti_lang.proofs.MeaningLaws.Total.{next_some}
use Rattle.ti_lang.proofs.meaning.process_laws.one_next.Goals as goal

pub returns-clause-some : goal.returns-clause-some
returns-clause-some c = next_some

pub returns-clause-only : goal.returns-clause-only
returns-clause-only c = next_same
