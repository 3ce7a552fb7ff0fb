use Rattle.ti_lex.proofs.Only.{some_reading, one_list, one_refusal, never_both}
use Rattle.ti_lex.proofs.lexer.one_reading.Goals as goal

pub returns : goal.returns
returns c = record {
  some = some_reading;
  one_list = one_list;
  one_refusal = one_refusal;
  never_both = never_both;
}
