use Rattle.std.proofs.Common.{Err, sym, subst}
use Rattle.ti_base.specs.declared.place.Place.{Place}
use Rattle.ti_rules.specs.declared.rule.Rule.TheVariants.{X5}
use Rattle.ti_rules.specs.LexicalRefusals as refusals
use Rattle.ti_rules.specs.LexicalRefusals.{IsLexicalRefusal}
use Rattle.ti_lex.specs.Answer.{Lexes}
use Rattle.ti_lex.specs.Mirrors.Cursor.{CursorView}
use Rattle.ti_lex.proofs.Only.{only_tokens, only_refusal}
use Rattle.ti_lex.proofs.lexer.lex.Goals as goal

pub returns-then-text-gt-MOST_BYTES-clause-answer : goal.returns-then-text-gt-MOST_BYTES-clause-answer
returns-then-text-gt-MOST_BYTES-clause-answer c =
    let text = c.args.text.now in
    let long : IsLexicalRefusal text (record { rule = X5; place = c.first.result }) =
    subst (λ (p : Place). IsLexicalRefusal text (record { rule = X5; place = p })) (sym c.first.ensures)
    (refusals.too_long c.if-text-gt-MOST_BYTES.true) in
    subst (λ e. Lexes text (Err e)) (sym c.lex_error.ensures) long

pub returns-clause-only_tokens : goal.returns-clause-only_tokens
returns-clause-only_tokens c =
    only_tokens c.args.text.now c.tokens.result (subst (λ (s : CursorView). Lexes s.text c.tokens.result) c.new.ensures c.tokens.ensures)

pub returns-clause-only_refusal : goal.returns-clause-only_refusal
returns-clause-only_refusal c =
    only_refusal c.args.text.now c.tokens.result (subst (λ (s : CursorView). Lexes s.text c.tokens.result) c.new.ensures c.tokens.ensures)
