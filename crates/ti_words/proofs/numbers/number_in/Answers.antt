use Rattle.std.proofs.Common.{arith, sym, ◌∙◌}
use Rattle.ti_words.proofs.NumberWords.{number_in-not_parsed}
use Rattle.ti_words.proofs.numbers.number_in.Goals as goal

pub returns-in_default : goal.returns-in_default
returns-in_default c =
    sym (number_in-not_parsed c.args.least c.args.most c.args.word.now c.in_default.field-0 (omega arith) (sym c.is_number_word.ensures ∙ c.if-not-is_number_word.false) c.in_default.ensures.value.0)
