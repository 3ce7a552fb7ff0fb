use Rattle.std.proofs.Common.{Err, ◌∷◌, [], subst}
use Rattle.ti_lex.specs.Answer.{Lexes}
use Rattle.ti_lex.specs.declared.error.LexErr.{LexErr}
use Rattle.ti_explain.proofs.TrialLaws.{kind_then}
use Rattle.ti_explain.proofs.expected.kind_of.Goals as goal

pub returns-in-Ok : goal.returns-in-Ok
returns-in-Ok c =
    kind_then c.one_reading.ensures.one_list c.args.text.now c.in-Ok.tokens.items c.in-Ok.ensures.answer.0 c.in-Ok.ensures.answer.1 c.only_kind.result c.only_kind.ensures

pub returns-in-Err-Refused : goal.returns-in-Err-Refused
returns-in-Err-Refused c =
    λ t has. c.one_reading.ensures.never_both c.args.text.now (t ∷ has.0 ∷ []) c.in-Err-Refused.field-0-0 has.1.short has.1.tokenized
    (subst (λ (e : LexErr). Lexes c.args.text.now (Err e)) c.in-Err-Refused.field-0-is c.in-Err-Refused.ensures.answer)
