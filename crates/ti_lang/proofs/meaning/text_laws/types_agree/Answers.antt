use Rattle.ti_lang.proofs.MeaningLaws.TextAgrees.{agrees}
use Rattle.ti_lang.proofs.meaning.text_laws.types_agree.Goals as goal

pub returns : goal.returns
returns c = λ program s dims x type are. agrees program s dims x are type
