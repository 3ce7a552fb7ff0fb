use Rattle.std.proofs.Common.{Some, Err, refl, ap, sym, ◌∙◌, subst, ◌+◌, length}
use Rattle.ti_syntax.specs.Trees.Views.{text_tree_of}
use Rattle.ti_syntax.specs.Spelling.{Unexpected, TooDeep, IsGrammarRefusal}
use Rattle.ti_parse_expr.specs.Mirrors.Input.{Fails}
use Rattle.ti_parse.specs.Answer.{Parsed}
use Rattle.ti_parse.specs.Mirrors.Classes.{text}
use Rattle.ti_parse.specs.Mirrors.ParserParams.{language_params}
use Rattle.ti_parse.proofs.Decided.{spelled, is_unexpected, is_too_deep, never_spent}
use Rattle.ti_parse.proofs.text.read_tree.Goals as goal

pub unreachable-requires : goal.unreachable-requires
unreachable-requires c =
    never_spent c.args.toks.now c.requires
    (ap (text language_params (length c.args.toks.now + 1)) (sym c.new-tokens.ensures)
    ∙ subst (λ e. Fails (text language_params (length c.args.toks.now + 1) c.new-tokens.result) e c.read_text.new.tokens) c.in-Err-OutOfFuel.field-0-is c.in-Err-OutOfFuel.ensures)

pub returns-in-Ok : goal.returns-in-Ok
returns-in-Ok c = spelled c.args.toks.now c.requires (text_tree_of c.in-Ok.classes) c.read_text.new.tokens (ap (text language_params (length c.args.toks.now + 1)) (sym c.new-tokens.ensures) ∙ c.in-Ok.ensures)

pub returns-in-Err-Refused : goal.returns-in-Err-Refused
returns-in-Err-Refused c =
    let said =
    is_unexpected c.args.toks.now c.requires c.read_text.new.tokens
    (ap (text language_params (length c.args.toks.now + 1)) (sym c.new-tokens.ensures)
    ∙ subst (λ e. Fails (text language_params (length c.args.toks.now + 1) c.new-tokens.result) e c.read_text.new.tokens) c.in-Err-Refused.field-0-is c.in-Err-Refused.ensures) in
    subst (λ e. Parsed c.args.toks.now (Err e)) (sym c.parse_error.ensures) (Unexpected, refl, subst (λ p. IsGrammarRefusal c.args.toks.now (Some (Unexpected, p))) (sym c.place.ensures) said)

pub returns-in-Err-TooDeep : goal.returns-in-Err-TooDeep
returns-in-Err-TooDeep c =
    let said =
    is_too_deep c.args.toks.now c.requires c.read_text.new.tokens
    (ap (text language_params (length c.args.toks.now + 1)) (sym c.new-tokens.ensures)
    ∙ subst (λ e. Fails (text language_params (length c.args.toks.now + 1) c.new-tokens.result) e c.read_text.new.tokens) c.in-Err-TooDeep.field-0-is c.in-Err-TooDeep.ensures) in
    subst (λ e. Parsed c.args.toks.now (Err e)) (sym c.parse_error-in-Err-TooDeep.ensures)
    (TooDeep, refl, subst (λ p. IsGrammarRefusal c.args.toks.now (Some (TooDeep, p))) (sym c.place-in-Err-TooDeep.ensures) said)

pub invariant_of-result : goal.invariant_of-result
invariant_of-result c =
    let (s, _) = spelled c.args.toks.now c.requires (text_tree_of c.in-Ok.classes) c.read_text.new.tokens (ap (text language_params (length c.args.toks.now + 1)) (sym c.new-tokens.ensures) ∙ c.in-Ok.ensures) in
    record { spelled = ∣ (c.args.toks.now, s) ∣₁ }
