use Rattle.std.proofs.Common.{[], map, ap, sym, ◌∙◌}
use Rattle.std.specs.Option.{option_or}
use Rattle.ti_syntax.specs.Trees.Expressions.{exps, ranges_tree}
use Rattle.ti_syntax.specs.Trees.Views.{exp_of, range_of}
use Rattle.ti_syntax.proofs.Lemmas.{seen_call, seen_point, seen_rect, seen_member, seen_index}
use Rattle.ti_explain.specs.declared.name_reason.SoughtName.TheVariants.{Method, StaticMethod}
use Rattle.ti_explain.specs.NameUses.{used_at, before_dot, used_member, use_in_exp, use_among, use_among_ranges}
use Rattle.ti_explain.proofs.name_uses.+use_in_expr.Goals as goal

pub use_in_exp-returns-in-Call : goal.use_in_exp-returns-in-Call
use_in_exp-returns-in-Call t c =
    let p = c.args.place in
    let own = c.used_at-own.ensures ∙ ap (λ name. used_at p c.in-Call.at Method [] name) c.as_bytes-in-Call.ensures in
    let args = c.use_among.ensures ∙ ap (λ l. use_among p (exps (map exp_of l))) c.deref.ensures.value in
    c.first_of.ensures ∙ (λ j. option_or (own j) (args j))
    ∙ sym (ap (use_in_exp p) (seen_call c.args.expr.now c.in-Call.at c.in-Call.name c.in-Call.args c.in-Call.is))

pub use_in_exp-returns-in-Point : goal.use_in_exp-returns-in-Point
use_in_exp-returns-in-Point t c =
    let p = c.args.place in
    c.use_among-in-Point.ensures ∙ ap (λ l. use_among p (exps (map exp_of l))) c.deref-in-Point.ensures.value
    ∙ sym (ap (use_in_exp p) (seen_point c.args.expr.now c.in-Point.field-0 c.in-Point.parts c.in-Point.is))

pub use_in_exp-returns-in-Rect : goal.use_in_exp-returns-in-Rect
use_in_exp-returns-in-Rect t c =
    let p = c.args.place in
    c.use_among_ranges.ensures ∙ ap (λ l. use_among_ranges p (ranges_tree (map range_of l))) c.deref-in-Rect.ensures.value
    ∙ sym (ap (use_in_exp p) (seen_rect c.args.expr.now c.in-Rect.field-0 c.in-Rect.ranges c.in-Rect.is))

pub use_in_exp-returns-in-Member : goal.use_in_exp-returns-in-Member
use_in_exp-returns-in-Member t c =
    let p = c.args.place in
    let own = c.used_member-own-in-Member.ensures
    ∙ (λ j. used_member p c.in-Member.at StaticMethod (exp_of (c.deref-in-Member.ensures j)) (c.as_bytes-in-Member.ensures j)) in
    let receiver = c.use_in_exp-in-Member.ensures ∙ ap (λ z. use_in_exp p (exp_of z)) c.deref-in-Member-3.ensures in
    let dot = c.before_dot-in-Member.ensures ∙ (λ j. before_dot (exp_of (c.deref-in-Member-2.ensures j)) (receiver j)) in
    let called = c.first_of-called.ensures ∙ (λ j. option_or (own j) (dot j)) in
    let args = c.use_among-in-Member.ensures ∙ ap (λ l. use_among p (exps (map exp_of l))) c.deref-in-Member-4.ensures.value in
    c.first_of-in-Member.ensures ∙ (λ j. option_or (called j) (args j))
    ∙ sym (ap (use_in_exp p) (seen_member c.args.expr.now c.in-Member.at c.in-Member.receiver c.in-Member.name c.in-Member.args c.in-Member.is))

pub use_in_exp-returns-in-Index : goal.use_in_exp-returns-in-Index
use_in_exp-returns-in-Index t c =
    let p = c.args.place in
    let receiver = c.use_in_exp-in-Index.ensures ∙ ap (λ z. use_in_exp p (exp_of z)) c.deref-in-Index.ensures in
    let indices = c.use_among-in-Index.ensures ∙ ap (λ l. use_among p (exps (map exp_of l))) c.deref-in-Index-2.ensures.value in
    c.first_of-in-Index.ensures ∙ (λ j. option_or (receiver j) (indices j))
    ∙ sym (ap (use_in_exp p) (seen_index c.args.expr.now c.in-Index.place c.in-Index.receiver c.in-Index.indices c.in-Index.is))
