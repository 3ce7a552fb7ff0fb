use Rattle.std.proofs.Common.{◌≡◌, map, drop}
use Rattle.ti_explain.specs.MisplacedWords.{modifier_at}
use Rattle.ti_explain.proofs.misplaced_words.modifier_at.Given as goal

abbrev pub invariant-loop-word : goal.invariant-loop-word
invariant-loop-word l = modifier_at l.place l.words ≡ modifier_at l.place (drop l.word-index l.words)
