use Rattle.ti_lang.proofs.MeaningLaws.Things.{made_once}
use Rattle.ti_lang.proofs.meaning.heap_laws.made_once.Goals as goal

pub returns : goal.returns
returns c = made_once
