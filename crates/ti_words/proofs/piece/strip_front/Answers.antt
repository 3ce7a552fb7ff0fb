use Rattle.std.proofs.Common.{◌∙◌, ap₂}
use Rattle.std.specs.Cmp.{unsigned_Decides}
use Rattle.std.proofs.lemmas.Slice.Eq.{strip_prefix_is}
use Rattle.ti_words.specs.Uses.{strip_front}
use Rattle.ti_words.proofs.Behind.{behind_from}
use Rattle.ti_words.proofs.piece.strip_front.Goals as goal

pub returns : goal.returns
returns c =
    behind_from c.as_bytes-2.result.now c.as_bytes.result.now c.strip_prefix.result
    (strip_prefix_is unsigned_Decides c.as_bytes.result.now c.as_bytes-2.result.now c.strip_prefix.result c.strip_prefix.ensures.cases)
    ∙ ap₂ strip_front c.as_bytes-2.ensures.value c.as_bytes.ensures.value
