use Rattle.std.proofs.Common.{◌+◌, map, drop, is_none, arith, ap, sym, ◌∙◌}
use Rattle.std.proofs.lemmas.List.{drop_all}
use Rattle.ti_syntax.specs.Trees.Views.{exp_of, range_of}
use Rattle.ti_syntax.specs.Trees.Expressions.{exps, ranges_tree}
use Rattle.ti_lang.specs.Nodes.{exp_nodes, exps_nodes, range_nodes, ranges_nodes}
use Rattle.ti_lang.specs.Scopes.{own_method_named}
use Rattle.ti_rules.specs.declared.rule.Rule.TheVariants.{N1}
use Rattle.ti_rules.specs.Refusals.{refused_if}
use Rattle.ti_rules.specs.Mirrors.First.{earlier_of, earliest}
use Rattle.ti_names.specs.Found.{first_in}
use Rattle.ti_names.specs.Seen.{site_of}
use Rattle.ti_names.proofs.Firsts.{in_step, in_end, in_call, in_point, in_rect, in_index}
use Rattle.ti_names.proofs.Walks.{drop_next}
use Rattle.ti_names.proofs.context.NameContext.+check_expr.Goals as goal

pub check_exps-loop-expr-preserved : goal.check_exps-loop-expr-preserved
check_exps-loop-expr-preserved t c =
    let site = site_of c.args.self.now in
    let rest = drop (c.loop-expr.expr-index + 1) c.args.exprs.now in
    let step = drop_next c.args.exprs.now c.loop-expr.expr-index c.expr-item.result (omega arith) c.expr-item.is in
    in_step c.loop-expr.found c.earlier_of-found.result _ _ (exp_nodes site (exp_of c.expr-item.result)) (exps_nodes site (exps (map exp_of rest))) c.loop-expr.invariant
    (ap (λ l. exps_nodes site (exps (map exp_of l))) step) (c.earlier_of-found.ensures ∙ ap (earlier_of c.loop-expr.found) c.check_exp.ensures)

pub check_exps-returns : goal.check_exps-returns
check_exps-returns t c =
    in_end c.loop-expr.found _ _ c.loop-expr.invariant (ap (λ l. exps_nodes (site_of c.args.self.now) (exps (map exp_of l))) (drop_all c.loop-expr.expr-index c.args.exprs.now (omega arith)))

pub check_ranges-loop-range-preserved : goal.check_ranges-loop-range-preserved
check_ranges-loop-range-preserved t c =
    let site = site_of c.args.self.now in
    let rest = drop (c.loop-range.range-index + 1) c.args.ranges.now in
    let step = drop_next c.args.ranges.now c.loop-range.range-index c.range-item.result (omega arith) c.range-item.is in
    in_step c.loop-range.found c.earlier_of-found.result _ _ (range_nodes site (range_of c.range-item.result)) (ranges_nodes site (ranges_tree (map range_of rest))) c.loop-range.invariant
    (ap (λ l. ranges_nodes site (ranges_tree (map range_of l))) step) (c.earlier_of-found.ensures ∙ ap (earlier_of c.loop-range.found) c.check_range.ensures)

pub check_ranges-returns : goal.check_ranges-returns
check_ranges-returns t c =
    in_end c.loop-range.found _ _ c.loop-range.invariant (ap (λ l. ranges_nodes (site_of c.args.self.now) (ranges_tree (map range_of l)))
    (drop_all c.loop-range.range-index c.args.ranges.now (omega arith)))

pub check_exp-returns-in-Call : goal.check_exp-returns-in-Call
check_exp-returns-in-Call t c =
    let site = site_of c.args.self.now in
    let named = c.check_method_use-named.ensures ∙ ap (λ name. earliest (refused_if (is_none (own_method_named site name)) N1 c.in-Call.place)) c.as_bytes-in-Call.ensures in
    let args = c.check_exps.ensures ∙ ap (λ l. first_in (exps_nodes site (exps (map exp_of l)))) c.deref.ensures.value in
    c.earlier_of.ensures ∙ (λ j. earlier_of (named j) (args j)) ∙ sym (in_call site c.args.expr.now c.in-Call.place c.in-Call.name c.in-Call.args c.in-Call.is)

pub check_exp-returns-in-Point : goal.check_exp-returns-in-Point
check_exp-returns-in-Point t c =
    let site = site_of c.args.self.now in
    c.check_exps-in-Point.ensures ∙ ap (λ l. first_in (exps_nodes site (exps (map exp_of l)))) c.deref-in-Point.ensures.value
    ∙ sym (in_point site c.args.expr.now c.in-Point.field-0 c.in-Point.parts c.in-Point.is)

pub check_exp-returns-in-Rect : goal.check_exp-returns-in-Rect
check_exp-returns-in-Rect t c =
    let site = site_of c.args.self.now in
    c.check_ranges.ensures ∙ ap (λ l. first_in (ranges_nodes site (ranges_tree (map range_of l)))) c.deref-in-Rect.ensures.value
    ∙ sym (in_rect site c.args.expr.now c.in-Rect.field-0 c.in-Rect.ranges c.in-Rect.is)

pub check_exp-returns-in-Index : goal.check_exp-returns-in-Index
check_exp-returns-in-Index t c =
    let site = site_of c.args.self.now in
    let receiver = c.check_exp-in-Index.ensures ∙ ap (λ z. first_in (exp_nodes site (exp_of z))) c.deref-in-Index.ensures in
    let indices = c.check_exps-in-Index.ensures ∙ ap (λ l. first_in (exps_nodes site (exps (map exp_of l)))) c.deref-in-Index-2.ensures.value in
    c.earlier_of-in-Index.ensures ∙ (λ j. earlier_of (receiver j) (indices j)) ∙ sym (in_index site c.args.expr.now c.in-Index.place c.in-Index.receiver c.in-Index.indices c.in-Index.is)
