use Rattle.std.proofs.Common.{List, Ok, Err, subst}
use Rattle.ti_syntax.specs.declared.token.Token.{Token}
use Rattle.ti_syntax.specs.Trees.Text.{tree_of}
use Rattle.ti_lang.specs.Program.Views.{program_of}
use Rattle.ti_rules.proofs.Lemmas.{OneReading}
use Rattle.ti_lex.specs.Answer.{Lexes}
use Rattle.ti_lex.specs.declared.error.LexErr.{LexErr}
use Rattle.ti_parse.specs.Answer.{Parsed}
use Rattle.ti_parse_expr.specs.declared.error.ParseErr.{ParseErr}
use Rattle.ti_parse_expr.specs.declared.error.ParseErr.TheVariants.{Refused}
use Rattle.ti_names.specs.Answer.{Resolves}
use Rattle.ti_names.specs.declared.error.NameErr.{NameErr}
use Rattle.ti_explain_infer.proofs.Reading.{not_lexed, not_parsed, not_named, has_tree, resolved}
use Rattle.ti_explain_infer.proofs.early.read_program.Goals as goal

pub returns-in-Ok-resolve : goal.returns-in-Ok-resolve
returns-in-Ok-resolve c =
    let parsed = subst (λ (tokens : List Token). Parsed tokens (Ok c.in-Ok-parse.tree)) c.deref.ensures.value c.in-Ok-parse.ensures.answer in
    let tree = tree_of c.in-Ok-parse.tree in
    let program = program_of c.in-Ok-resolve.program.parts in
    resolved c.args.text.now tree program
    (has_tree c.args.text.now c.in-Ok.tokens.items tree (record { short = c.in-Ok.ensures.answer.0; tokenized = c.in-Ok.ensures.answer.1 }) parsed.0 parsed.1)
    (c.one_program.ensures.unbroken tree program c.in-Ok-resolve.ensures.resolves) c.in-Ok-resolve.ensures.resolves

pub returns-in-Err-Refused-resolve : goal.returns-in-Err-Refused-resolve
returns-in-Err-Refused-resolve c =
    let parsed = subst (λ (tokens : List Token). Parsed tokens (Ok c.in-Ok-parse.tree)) c.deref.ensures.value c.in-Ok-parse.ensures.answer in
    let tree = tree_of c.in-Ok-parse.tree in
    not_named c.args.text.now tree c.in-Err-Refused-resolve.field-0-0
    (has_tree c.args.text.now c.in-Ok.tokens.items tree (record { short = c.in-Ok.ensures.answer.0; tokenized = c.in-Ok.ensures.answer.1 }) parsed.0 parsed.1)
    (subst (λ (e : NameErr). Resolves tree (Err e)) c.in-Err-Refused-resolve.field-0-is c.in-Err-Refused-resolve.ensures.resolves)

pub returns-in-Err-Refused-parse : goal.returns-in-Err-Refused-parse
returns-in-Err-Refused-parse c =
    let known : OneReading = record {
      one_list = c.one_reading.ensures.one_list;
      one_flaw = c.one_reading.ensures.one_refusal;
      not_both = c.one_reading.ensures.never_both;
      one_tree = c.one_text.ensures.one_tree;
      one_misfit = c.one_text.ensures.only;
      one_numbered = c.one_program.ensures.only;
    } in
    not_parsed known c.args.text.now c.in-Ok.tokens.items c.in-Err-Refused-parse.field-0-0
    (record { short = c.in-Ok.ensures.answer.0; tokenized = c.in-Ok.ensures.answer.1 })
    (subst (λ (tokens : List Token). Parsed tokens (Err (Refused c.in-Err-Refused-parse.field-0-0))) c.deref.ensures.value
    (subst (λ (e : ParseErr). Parsed c.deref.result.now (Err e)) c.in-Err-Refused-parse.field-0-is c.in-Err-Refused-parse.ensures.answer))

pub returns-in-Err-Refused : goal.returns-in-Err-Refused
returns-in-Err-Refused c =
    let known : OneReading = record {
      one_list = c.one_reading.ensures.one_list;
      one_flaw = c.one_reading.ensures.one_refusal;
      not_both = c.one_reading.ensures.never_both;
      one_tree = c.one_text.ensures.one_tree;
      one_misfit = c.one_text.ensures.only;
      one_numbered = c.one_program.ensures.only;
    } in
    not_lexed known c.args.text.now c.in-Err-Refused.field-0-0
    (subst (λ (e : LexErr). Lexes c.args.text.now (Err e)) c.in-Err-Refused.field-0-is c.in-Err-Refused.ensures.answer)
