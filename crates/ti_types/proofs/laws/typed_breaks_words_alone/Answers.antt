use Rattle.ti_types.proofs.WordsAlone.{words_alone}
use Rattle.ti_types.proofs.laws.typed_breaks_words_alone.Goals as goal

pub returns : goal.returns
returns c = λ p s e t is. words_alone p s e (t, is)
