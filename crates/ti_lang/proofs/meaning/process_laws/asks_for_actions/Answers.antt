use Rattle.ti_lang.proofs.MeaningLaws.Requests.{no_end_asked}
use Rattle.ti_lang.proofs.meaning.process_laws.asks_for_actions.Goals as goal

pub returns : goal.returns
returns c = no_end_asked
