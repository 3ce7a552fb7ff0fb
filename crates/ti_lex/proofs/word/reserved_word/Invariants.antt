use Rattle.std.proofs.Common.{◌≡◌, drop}
use Rattle.std.specs.Map.{lookup}
use Rattle.std.specs.Str.{bytes_eq}
use Rattle.ti_lex.specs.Mirrors.Reading.{reserved_words}
use Rattle.ti_lex.proofs.word.reserved_word.Given as goal

abbrev pub invariant-loop-number : goal.invariant-loop-number
invariant-loop-number l =
    lookup (bytes_eq l.word) (drop l.number reserved_words) ≡ lookup (bytes_eq l.word) reserved_words
