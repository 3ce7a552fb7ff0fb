use Rattle.std.proofs.Common.{map, ap, sym, ◌∙◌}
use Rattle.ti_lang.specs.Program.Expressions.{numbered_exps}
use Rattle.ti_lang.specs.Program.Scope.{contents_of}
use Rattle.ti_lang.specs.Program.Views.{program_of, expression_of}
use Rattle.ti_lang.specs.Typing.Kinds.{is_point_type}
use Rattle.ti_lang.specs.Typing.TextTypes.{syntactic_type}
use Rattle.ti_lang.specs.Typing.Called.{member_called}
use Rattle.ti_lang.specs.Typing.Singleness.{tells_of_domain}
use Rattle.ti_rules.specs.StmtInContext.{singles_in}
use Rattle.ti_lang.proofs.Lemmas.{seen_numbered_member, seen_numbered_index}
use Rattle.ti_explain.specs.PlainParts.{plain_part}
use Rattle.ti_explain.proofs.PlainLaws.{same_among, index_plain, member_plain}
use Rattle.ti_explain.proofs.plain.+plain.Goals as goal

pub plain_part-returns-in-Index : goal.plain_part-returns-in-Index
plain_part-returns-in-Index t c =
    let p = program_of c.args.program.now.parts in
    let this = c.args.scope.now.this in
    let singles = singles_in (contents_of c.args.scope.now) in
    index_plain p this singles c.in-Index.place (expression_of c.in-Index.receiver.value)
    (numbered_exps (map expression_of c.in-Index.indices.items)) c.is_point-of_point.result c.plain_part-part-in-Index.result
    c.plain_among-in-Index.result c.or-parts.result c.part_if-in-Index.result c.part_if-in-Index.ensures c.or-parts.ensures
    (c.is_point-of_point.ensures ∙ ap is_point_type (c.syntactic_type.ensures ∙ ap (λ z. syntactic_type p this (expression_of z)) c.deref_expr-receiver.ensures))
    (c.plain_part-part-in-Index.ensures ∙ ap (λ z. plain_part p this singles (expression_of z)) c.deref_expr-receiver.ensures)
    (same_among p this singles c.deref_exprs-in-Index.result.now c.in-Index.indices.items c.plain_among-in-Index.result c.deref_exprs-in-Index.ensures c.plain_among-in-Index.ensures)
    ∙ sym (ap (plain_part p this singles) (seen_numbered_index c.args.expr.now c.in-Index.place c.in-Index.receiver c.in-Index.indices c.in-Index.is))

pub plain_part-returns-in-Member : goal.plain_part-returns-in-Member
plain_part-returns-in-Member t c =
    let p = program_of c.args.program.now.parts in
    let this = c.args.scope.now.this in
    let singles = singles_in (contents_of c.args.scope.now) in
    member_plain p this singles c.in-Member.place (expression_of c.in-Member.receiver.value) c.in-Member.name (numbered_exps (map expression_of c.in-Member.args.items)) c.tells_of_domain-tells.result
    c.plain_part-part-in-Member.result c.plain_among-in-Member.result c.or-parts-in-Member.result c.part_if-in-Member.result c.part_if-in-Member.ensures c.or-parts-in-Member.ensures
    (c.tells_of_domain-tells.ensures ∙ ap tells_of_domain (c.member_called.ensures ∙ ap (λ z. member_called p this (expression_of z) c.in-Member.name) c.deref_expr-receiver-in-Member.ensures))
    (c.plain_part-part-in-Member.ensures ∙ ap (λ z. plain_part p this singles (expression_of z)) c.deref_expr-receiver-in-Member.ensures)
    (same_among p this singles c.deref_exprs-in-Member.result.now c.in-Member.args.items c.plain_among-in-Member.result c.deref_exprs-in-Member.ensures c.plain_among-in-Member.ensures)
    ∙ sym (ap (plain_part p this singles) (seen_numbered_member c.args.expr.now c.in-Member.place c.in-Member.receiver c.in-Member.name c.in-Member.args c.in-Member.is))
