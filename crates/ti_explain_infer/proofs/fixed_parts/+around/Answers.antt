use Rattle.std.proofs.Common.{map, Option, ap, sym, ◌∙◌}
use Rattle.std.specs.Option.{option_or}
use Rattle.ti_syntax.specs.Trees.Views.{maybe_of}
use Rattle.ti_lang.specs.declared.program.stmts.Stmt.{Stmt, back-Stmt-If-3}
use Rattle.ti_lang.specs.Program.Scope.{contents_of}
use Rattle.ti_lang.specs.Program.Views.{program_of, expression_of, statement_of, maybe_statement_of}
use Rattle.ti_rules.specs.StmtInContext.{singles_in}
use Rattle.ti_single.specs.Mirrors.Maybe.{maybe_in}
use Rattle.ti_explain.specs.declared.reason.PlainPart.{PlainPart}
use Rattle.ti_explain_infer.specs.FixedParts.{part_around, part_around_maybe, within_maybe}
use Rattle.ti_explain_infer.proofs.FixedPartLaws.{same_maybe}
use Rattle.ti_explain_infer.proofs.fixed_parts.+around.Goals as goal

pub part_around-returns-in-For : goal.part_around-returns-in-For
part_around-returns-in-For t c =
    let p = program_of c.args.program.now.parts in
    let this = c.args.scope.now.this in
    let singles = singles_in (contents_of c.args.scope.now) in
    let by = c.args.of_conditions in
    let at = c.args.place in
    let within = λ (found : Option (Option PlainPart)). within_maybe p this singles by (maybe_of expression_of c.in-For.condition)
    (option_or (part_around p this singles by at (statement_of c.in-For.body.value)) found) in
    c.or.ensures
    ∙ ap (λ z. option_or z c.within_maybe.result) c.part_around_maybe-first.ensures
    ∙ ap (option_or (part_around_maybe p this singles by at (maybe_in c.in-For.first)))
    (c.within_maybe.ensures
    ∙ ap (within_maybe p this singles by (maybe_of expression_of c.in-For.condition))
    (c.or-found-in-For.ensures
    ∙ ap (λ z. option_or z c.part_around_maybe.result)
    (c.part_around-body.ensures ∙ ap (λ (s : Stmt). part_around p this singles by at (statement_of s)) c.deref_stmt-in-For.ensures)
    ∙ ap (option_or (part_around p this singles by at (statement_of c.in-For.body.value))) c.part_around_maybe.ensures))
    ∙ ap (λ m. option_or (part_around_maybe p this singles by at m) (within (part_around_maybe p this singles by at (maybe_in c.in-For.update)))) (same_maybe c.in-For.first)
    ∙ ap (λ m. option_or (part_around_maybe p this singles by at (maybe_statement_of (back-Stmt-If-3 c.in-For.first))) (within (part_around_maybe p this singles by at m))) (same_maybe c.in-For.update)
    ∙ sym (ap (λ (s : Stmt). part_around p this singles by at (statement_of s)) c.in-For.is)
