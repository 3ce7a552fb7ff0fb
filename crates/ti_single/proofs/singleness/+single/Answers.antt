use Rattle.std.proofs.Common.{map, ap, sym, ◌∙◌}
use Rattle.ti_lang.specs.Program.Expressions.{numbered_exps}
use Rattle.ti_lang.specs.Program.Scope.{contents_of}
use Rattle.ti_lang.specs.Program.Views.{program_of, expression_of}
use Rattle.ti_lang.specs.Typing.Singleness.{is_single_part}
use Rattle.ti_lang.specs.Typing.Kinds.{is_point_type}
use Rattle.ti_lang.specs.Typing.TextTypes.{syntactic_type}
use Rattle.ti_lang.specs.Typing.Called.{member_called}
use Rattle.ti_lang.specs.Typing.Singleness.{tells_of_domain}
use Rattle.ti_rules.specs.StmtInContext.{singles_in}
use Rattle.ti_lang.proofs.Lemmas.{seen_numbered_point, seen_numbered_rect, seen_numbered_member, seen_numbered_index}
use Rattle.ti_single.proofs.Parts.{same_arguments, same_ranges, index_single, member_single}
use Rattle.ti_single.proofs.singleness.+single.Goals as goal

pub is_single_part-returns-in-Point : goal.is_single_part-returns-in-Point
is_single_part-returns-in-Point t c =
    let p = program_of c.args.program.now.parts in
    let singles = singles_in (contents_of c.args.scope.now) in
    same_arguments p c.args.scope.now.this singles c.deref_exprs.result.now c.in-Point.xs.items c.are_single.result c.deref_exprs.ensures c.are_single.ensures
    ∙ sym (ap (is_single_part p c.args.scope.now.this singles) (seen_numbered_point c.args.expr.now c.in-Point.field-0 c.in-Point.xs c.in-Point.is))

pub is_single_part-returns-in-Rect : goal.is_single_part-returns-in-Rect
is_single_part-returns-in-Rect t c =
    let p = program_of c.args.program.now.parts in
    let singles = singles_in (contents_of c.args.scope.now) in
    same_ranges p c.args.scope.now.this singles c.deref_ranges.result.now c.in-Rect.found.items c.are_single_ranges.result c.deref_ranges.ensures c.are_single_ranges.ensures
    ∙ sym (ap (is_single_part p c.args.scope.now.this singles) (seen_numbered_rect c.args.expr.now c.in-Rect.field-0 c.in-Rect.found c.in-Rect.is))

pub is_single_part-returns-in-Index : goal.is_single_part-returns-in-Index
is_single_part-returns-in-Index t c =
    let p = program_of c.args.program.now.parts in
    let this = c.args.scope.now.this in
    let singles = singles_in (contents_of c.args.scope.now) in
    index_single p this singles c.in-Index.place (expression_of c.in-Index.receiver.value)
    (numbered_exps (map expression_of c.in-Index.indices.items)) c.is_point-of_point.result c.is_single_part-part.result
    c.are_single-in-Index.result
    c.all_hold.result c.all_hold.ensures
    (c.is_point-of_point.ensures ∙ ap is_point_type (c.syntactic_type.ensures ∙ ap (λ z. syntactic_type p this (expression_of z)) c.deref_expr-receiver.ensures))
    (c.is_single_part-part.ensures ∙ ap (λ z. is_single_part p this singles (expression_of z)) c.deref_expr-receiver.ensures)
    (same_arguments p this singles c.deref_exprs-in-Index.result.now c.in-Index.indices.items c.are_single-in-Index.result c.deref_exprs-in-Index.ensures c.are_single-in-Index.ensures)
    ∙ sym (ap (is_single_part p this singles) (seen_numbered_index c.args.expr.now c.in-Index.place c.in-Index.receiver c.in-Index.indices c.in-Index.is))

pub is_single_part-returns-in-Member : goal.is_single_part-returns-in-Member
is_single_part-returns-in-Member t c =
    let p = program_of c.args.program.now.parts in
    let this = c.args.scope.now.this in
    let singles = singles_in (contents_of c.args.scope.now) in
    member_single p this singles c.in-Member.place (expression_of c.in-Member.receiver.value) c.in-Member.name (numbered_exps (map expression_of c.in-Member.args.items)) c.tells_of_domain-tells.result
    c.is_single_part-part-in-Member.result c.are_single-in-Member.result c.all_hold-in-Member.result c.all_hold-in-Member.ensures
    (c.tells_of_domain-tells.ensures ∙ ap tells_of_domain (c.member_called.ensures ∙ ap (λ z. member_called p this (expression_of z) c.in-Member.name) c.deref_expr-receiver-in-Member.ensures))
    (c.is_single_part-part-in-Member.ensures ∙ ap (λ z. is_single_part p this singles (expression_of z)) c.deref_expr-receiver-in-Member.ensures)
    (same_arguments p this singles c.deref_exprs-in-Member.result.now c.in-Member.args.items c.are_single-in-Member.result c.deref_exprs-in-Member.ensures c.are_single-in-Member.ensures)
    ∙ sym (ap (is_single_part p this singles) (seen_numbered_member c.args.expr.now c.in-Member.place c.in-Member.receiver c.in-Member.name c.in-Member.args c.in-Member.is))
