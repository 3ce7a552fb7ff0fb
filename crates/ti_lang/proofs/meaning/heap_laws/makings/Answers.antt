use Rattle.ti_lang.proofs.MeaningLaws.NewThings.{value_stays}
use Rattle.ti_lang.proofs.meaning.heap_laws.makings.Goals as goal

pub returns : goal.returns
returns c = value_stays
