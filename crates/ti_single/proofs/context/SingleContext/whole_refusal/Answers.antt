use Rattle.std.proofs.Common.{map, sym, ap, ◌∙◌}
use Rattle.ti_lang.specs.Program.Expressions.{numbered_exps}
use Rattle.ti_lang.specs.Program.Expressions as x
use Rattle.ti_lang.specs.Program.Scope.{this_of}
use Rattle.ti_lang.specs.Program.Views.{expression_of, numbered_method_of}
use Rattle.ti_lang.specs.Typing.Called.{called_method}
use Rattle.ti_rules.specs.Mirrors.First.{earlier_of, earliest}
use Rattle.ti_rules.specs.SingleRules.{call_refusals, delete_refusals, whole_refusals}
use Rattle.ti_rules.proofs.Lemmas.{first_append}
use Rattle.ti_lang.proofs.Lemmas.{seen_numbered_member}
use Rattle.ti_single.specs.Contexts.{program_at, around_of}
use Rattle.ti_single.proofs.context.SingleContext.whole_refusal.Goals as goal

pub returns-in-Member : goal.returns-in-Member
returns-in-Member c =
    let p = program_at c.args.self in
    let around = around_of c.args.self in
    let this = this_of (numbered_method_of c.args.self.method.now) in
    let seen = seen_numbered_member c.args.expr.now c.in-Member.place c.in-Member.receiver c.in-Member.name c.in-Member.args c.in-Member.is in
    let args = numbered_exps (map expression_of c.in-Member.args.items) in
    let form = x.member c.in-Member.place (expression_of c.in-Member.receiver.value) c.in-Member.name (map expression_of c.in-Member.args.items) in
    let call = call_refusals p around (called_method p this form) args in
    let own = delete_refusals p around c.in-Member.place (expression_of c.in-Member.receiver.value) c.in-Member.name in
    let method = c.called_method-m-in-Member.ensures ∙ ap (λ t. called_method p t (expression_of c.args.expr.now)) c.this-in-Member.ensures ∙ ap (called_method p this) seen in
    c.earlier_of.ensures
    ∙ ap (λ a. earlier_of a c.delete.result)
    (c.call-call.ensures
    ∙ ap (λ m. earliest (call_refusals p around m (numbered_exps (map expression_of c.deref_exprs-in-Member.result.now)))) method
    ∙ ap (λ l. earliest (call_refusals p around (called_method p this form) (numbered_exps (map expression_of l)))) c.deref_exprs-in-Member.ensures)
    ∙ ap (earlier_of (earliest call)) (c.delete.ensures ∙ ap (λ z. earliest (delete_refusals p around c.in-Member.place (expression_of z) c.in-Member.name)) c.deref_expr.ensures)
    ∙ sym (first_append call own)
    ∙ sym (ap (λ z. earliest (whole_refusals p around z)) seen)
