use Rattle.std.proofs.Common.{◌≡◌, map, None, refl, ap, sym, ◌∙◌}
use Rattle.ti_syntax.specs.Trees.Views.{exp_of, range_of}
use Rattle.ti_syntax.proofs.Lemmas.{seen_member}
use Rattle.ti_lang.specs.declared.program.exprs.Expr.{Member}
use Rattle.ti_lang.specs.Program.Views.{expression_of}
use Rattle.ti_lang.specs.Members.{name_number}
use Rattle.ti_lang.specs.Scopes.{class_before_dot}
use Rattle.ti_lang.proofs.Lemmas.{seen_numbered_member}
use Rattle.ti_names.specs.Mirrors.Numbered.{number_exp, number_range}
use Rattle.ti_names.specs.Seen.{site_of}
use Rattle.ti_names.proofs.Nested.{number_point, number_rect, number_index}
use Rattle.ti_names.proofs.Walks.{number_member}
use Rattle.ti_names.proofs.context.NameContext.+number_expr.Goals as goal

pub exp-returns-in_ok-exps-in-Point : goal.exp-returns-in_ok-exps-in-Point
exp-returns-in_ok-exps-in-Point t c =
    let site = site_of c.args.self.now in
    number_point site c.args.expr.now c.in-Point.place c.in-Point.parts c.in_ok-exps-in-Point.field-0 c.in-Point.is
    (c.in_ok-exps-in-Point.ensures ∙ ap (λ l. map (number_exp site) (map exp_of l)) c.deref-in-Point.ensures.value)

pub exp-returns-in_ok-ranges-in-Rect : goal.exp-returns-in_ok-ranges-in-Rect
exp-returns-in_ok-ranges-in-Rect t c =
    let site = site_of c.args.self.now in
    number_rect site c.args.expr.now c.in-Rect.place c.in-Rect.ranges c.in_ok-ranges-in-Rect.field-0 c.in-Rect.is
    (c.in_ok-ranges-in-Rect.ensures ∙ ap (λ l. map (number_range site) (map range_of l)) c.deref-in-Rect.ensures.value)

pub exp-returns-in_ok-exps-in-Index : goal.exp-returns-in_ok-exps-in-Index
exp-returns-in_ok-exps-in-Index t c =
    let site = site_of c.args.self.now in
    number_index site c.args.expr.now c.in-Index.place c.in-Index.receiver c.in-Index.indices c.in_ok-boxed_expr-in-Index.field-0 c.in_ok-exps-in-Index.field-0 c.in-Index.is
    (c.in_ok-boxed_expr-in-Index.ensures ∙ ap (λ z. number_exp site (exp_of z)) c.deref-in-Index.ensures) (c.in_ok-exps-in-Index.ensures
    ∙ ap (λ l. map (number_exp site) (map exp_of l)) c.deref-in-Index-2.ensures.value)

pub exp-returns-in_ok-exps-in-None : goal.exp-returns-in_ok-exps-in-None
exp-returns-in_ok-exps-in-None t c =
    let site = site_of c.args.self.now in
    let b = c.in-Member.receiver.value in
    let e = seen_member c.args.expr.now c.in-Member.place c.in-Member.receiver c.in-Member.name c.in-Member.args c.in-Member.is in
    let means : c.class_before_dot.result ≡ class_before_dot site (exp_of b) = c.class_before_dot.ensures ∙ ap (λ z. class_before_dot site (exp_of z)) c.deref-in-Member.ensures in
    let dotted : class_before_dot site (exp_of b) ≡ None = sym means ∙ c.in-None.is in
    let is_x : expression_of c.in_ok-boxed_expr-in-None.field-0.value ≡ number_exp site (exp_of b) = c.in_ok-boxed_expr-in-None.ensures ∙ ap (λ z. number_exp site (exp_of z)) c.deref-in-None.ensures in
    let is_name : c.name-in-None.result ≡ name_number site.text c.in-Member.name = c.name-in-None.ensures ∙ ap (name_number site.text) c.as_bytes-in-None.ensures in
    let are_args : map expression_of c.in_ok-exps-in-None.field-0.items ≡ map (number_exp site) (map exp_of c.in-Member.args.items) =
    c.in_ok-exps-in-None.ensures ∙ ap (λ z. map (number_exp site) (map exp_of z)) c.deref-in-None-2.ensures.value in
    seen_numbered_member (Member c.in-Member.place c.in_ok-boxed_expr-in-None.field-0 c.name-in-None.result c.in_ok-exps-in-None.field-0)
    c.in-Member.place c.in_ok-boxed_expr-in-None.field-0 c.name-in-None.result c.in_ok-exps-in-None.field-0 refl
    ∙ number_member site c.in-Member.place (exp_of b) c.in-Member.name (map exp_of c.in-Member.args.items)
    (expression_of c.in_ok-boxed_expr-in-None.field-0.value) c.name-in-None.result
    (map expression_of c.in_ok-exps-in-None.field-0.items) dotted is_x is_name are_args
    ∙ ap (number_exp site) (sym e)
