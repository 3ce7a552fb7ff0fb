use Rattle.std.proofs.Common.{Err, subst}
use Rattle.ti_rules.proofs.Lemmas.{OneReading}
use Rattle.ti_lex.specs.Answer.{Lexes}
use Rattle.ti_lex.specs.declared.error.LexErr.{LexErr}
use Rattle.ti_explain.proofs.Explained.{tokens_then, bytes_then}
use Rattle.ti_explain.proofs.phases.reasons_of.Goals as goal

pub explain_tokens-requires-clause-tokens : goal.explain_tokens-requires-clause-tokens
explain_tokens-requires-clause-tokens c =
    (c.args.text.now, record { short = c.in-Ok.ensures.answer.0; tokenized = c.in-Ok.ensures.answer.1 })

pub returns-in-Ok : goal.returns-in-Ok
returns-in-Ok c =
    let known : OneReading = record {
      one_list = c.one_reading.ensures.one_list;
      one_flaw = c.one_reading.ensures.one_refusal;
      not_both = c.one_reading.ensures.never_both;
      one_tree = c.one_text.ensures.one_tree;
      one_misfit = c.one_text.ensures.only;
      one_numbered = c.one_program.ensures.only;
    } in
    tokens_then known c.args.text.now c.in-Ok.tokens.items c.explain_tokens.result
    (record { short = c.in-Ok.ensures.answer.0; tokenized = c.in-Ok.ensures.answer.1 }) c.explain_tokens.ensures

pub returns-in-Err-Refused : goal.returns-in-Err-Refused
returns-in-Err-Refused c =
    bytes_then c.args.text.now c.in-Err-Refused.refusal c.unexplained.result c.unexplained.ensures.refusal c.unexplained.ensures.reasons
    (subst (λ (e : LexErr). Lexes c.args.text.now (Err e)) c.in-Err-Refused.field-0-is c.in-Err-Refused.ensures.answer)
