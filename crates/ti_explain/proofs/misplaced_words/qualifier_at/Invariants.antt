use Rattle.std.proofs.Common.{◌≡◌, map, drop}
use Rattle.ti_explain.specs.MisplacedWords.{qualifier_at}
use Rattle.ti_explain.proofs.misplaced_words.qualifier_at.Given as goal

abbrev pub invariant-loop-word : goal.invariant-loop-word
invariant-loop-word l = qualifier_at l.place l.words ≡ qualifier_at l.place (drop l.word-index l.words)
