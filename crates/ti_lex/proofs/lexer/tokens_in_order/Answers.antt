use Rattle.ti_lex.proofs.Order.{tokens_placed, tokens_rise}
use Rattle.ti_lex.proofs.lexer.tokens_in_order.Goals as goal

pub returns : goal.returns
returns c = record { placed = tokens_placed; rises = tokens_rise }
