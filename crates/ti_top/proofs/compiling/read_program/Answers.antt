use Rattle.std.proofs.Common.{List, Ok, Err, subst}
use Rattle.std.proofs.lemmas.Result.{err_from_is_err_and}
use Rattle.ti_syntax.specs.declared.token.Token.{Token}
use Rattle.ti_syntax.specs.Trees.Text.{tree_of}
use Rattle.ti_lang.specs.Program.Views.{program_of}
use Rattle.ti_rules.proofs.Lemmas.{OneReading}
use Rattle.ti_parse.specs.Answer.{Parsed}
use Rattle.ti_top.proofs.Compiled.{has_tree, not_lexed, not_parsed, not_named}
use Rattle.ti_top.proofs.compiling.read_program.Goals as goal

pub returns-in_err-tokens : goal.returns-in_err-tokens
returns-in_err-tokens c =
    let known : OneReading = record {
      one_list = c.one_reading.ensures.one_list;
      one_flaw = c.one_reading.ensures.one_refusal;
      not_both = c.one_reading.ensures.never_both;
      one_tree = c.one_text.ensures.one_tree;
      one_misfit = c.one_text.ensures.only;
      one_numbered = c.one_program.ensures.only;
    } in
    let p = err_from_is_err_and c.from_residual.result c.from_residual.ensures.1 in
    rw p.1 (rw p.2 (not_lexed known c.args.text.now c.in_err-tokens.field-0.0 c.in_err-tokens.ensures.answer))

pub returns-in_err-tree : goal.returns-in_err-tree
returns-in_err-tree c =
    let known : OneReading = record {
      one_list = c.one_reading.ensures.one_list;
      one_flaw = c.one_reading.ensures.one_refusal;
      not_both = c.one_reading.ensures.never_both;
      one_tree = c.one_text.ensures.one_tree;
      one_misfit = c.one_text.ensures.only;
      one_numbered = c.one_program.ensures.only;
    } in
    let p = err_from_is_err_and c.from_residual-in_err-tree.result c.from_residual-in_err-tree.ensures.1 in
    let parsed = subst (λ (toks : List Token). Parsed toks (Err c.in_err-tree.field-0.0)) c.deref.ensures.value c.in_err-tree.ensures.answer in
    rw p.1 (rw p.2 (not_parsed known c.args.text.now c.in_ok-tokens.tokens c.in_err-tree.field-0.0 c.in_ok-tokens.ensures.answer parsed))

pub returns-in_err-program : goal.returns-in_err-program
returns-in_err-program c =
    let p = err_from_is_err_and c.from_residual-in_err-program.result c.from_residual-in_err-program.ensures.1 in
    let parsed = subst (λ (toks : List Token). Parsed toks (Ok c.in_ok-tree.tree)) c.deref.ensures.value c.in_ok-tree.ensures.answer in
    let has = has_tree c.args.text.now c.in_ok-tokens.tokens c.in_ok-tree.tree c.in_ok-tokens.ensures.answer parsed in
    rw p.1 (rw p.2 (not_named c.args.text.now c.in_ok-tree.tree c.in_err-program.field-0.0 has c.in_err-program.ensures.resolves))

pub returns : goal.returns
returns c =
    let parsed = subst (λ (toks : List Token). Parsed toks (Ok c.in_ok-tree.tree)) c.deref.ensures.value c.in_ok-tree.ensures.answer in
    let tree = tree_of c.in_ok-tree.tree in
    let program = program_of c.in_ok-program.program.parts in
    record {
      tree = tree;
      has_tree = has_tree c.args.text.now c.in_ok-tokens.tokens c.in_ok-tree.tree c.in_ok-tokens.ensures.answer parsed;
      named = c.one_program.ensures.unbroken tree program c.in_ok-program.ensures.resolves;
      numbers = c.in_ok-program.ensures.resolves;
    }
