use Rattle.std.proofs.Common.{Bool, not, List, ◌++◌, map, ap, ap₂, sym, ◌∙◌}
use Rattle.ti_lang.specs.declared.program.exprs.Expr.{Expr}
use Rattle.ti_lang.specs.declared.program.exprs.Range.{Range}
use Rattle.ti_lang.specs.Program.Expressions.{numbered_exps, numbered_ranges}
use Rattle.ti_lang.specs.Program.Views.{expression_of, bound_of}
use Rattle.ti_lang.proofs.Lemmas.{seen_numbered_point, seen_numbered_rect, seen_numbered_member, seen_numbered_index}
use Rattle.ti_infer.specs.Mirrors.Dependencies.{plain_if}
use Rattle.ti_infer.specs.Mirrors.Sites.{dependencies_at, all_dependencies_at, ranges_dependencies_at, index_dependencies_at, member_dependencies_at}
use Rattle.ti_infer.proofs.Pushing.{pushed_as, pushed_three}
use Rattle.ti_infer.proofs.constraints.dependencies.+dependencies.Goals as goal

pub dependencies-returns-in-Point : goal.dependencies-returns-in-Point
dependencies-returns-in-Point t c =
    let s = c.args.site in
    let vs = c.args.inside.now in
    pushed_as c.all.result c.args.out.now.items c.all.new.out.items (all_dependencies_at s vs (numbered_exps (map expression_of c.deref_exprs.result.now))) (dependencies_at s vs (expression_of c.args.expr.now))
    (ap (λ (xs : List Expr). all_dependencies_at s vs (numbered_exps (map expression_of xs))) c.deref_exprs.ensures
    ∙ sym (ap (dependencies_at s vs) (seen_numbered_point c.args.expr.now c.in-Point.field-0 c.in-Point.xs c.in-Point.is))) c.all.ensures

pub dependencies-returns-in-Rect : goal.dependencies-returns-in-Rect
dependencies-returns-in-Rect t c =
    let s = c.args.site in
    let vs = c.args.inside.now in
    pushed_as c.all_ranges.result c.args.out.now.items c.all_ranges.new.out.items
    (ranges_dependencies_at s vs (numbered_ranges (map bound_of c.deref_ranges.result.now))) (dependencies_at s vs (expression_of c.args.expr.now))
    (ap (λ (xs : List Range). ranges_dependencies_at s vs (numbered_ranges (map bound_of xs))) c.deref_ranges.ensures
    ∙ sym (ap (dependencies_at s vs) (seen_numbered_rect c.args.expr.now c.in-Rect.field-0 c.in-Rect.found c.in-Rect.is))) c.all_ranges.ensures

pub dependencies-returns-in_ok-dependencies-in-Index : goal.dependencies-returns-in_ok-dependencies-in-Index
dependencies-returns-in_ok-dependencies-in-Index t c =
    let s = c.args.site in
    let vs = c.args.inside.now in
    let r = c.deref_expr-receiver.result.now in
    let xs = c.deref_exprs-in-Index.result.now in
    pushed_three c.all-in-Index.result c.args.out.now.items c.plain_if-in-Index.new.out.items c.dependencies-in-Index.new.out.items
    c.all-in-Index.new.out.items (plain_if (not c.indexes_point.result)) (dependencies_at s vs (expression_of r))
    (all_dependencies_at s vs (numbered_exps (map expression_of xs))) (dependencies_at s vs (expression_of c.args.expr.now))
    c.in_ok-plain_if-in-Index.ensures c.in_ok-dependencies-in-Index.ensures
    (ap (λ (b : Bool). plain_if (not b) ++ (dependencies_at s vs (expression_of r) ++ all_dependencies_at s vs (numbered_exps (map expression_of xs)))) c.indexes_point.ensures
    ∙ ap₂ (λ (a : Expr) (ys : List Expr). index_dependencies_at s vs a ys) c.deref_expr-receiver.ensures c.deref_exprs-in-Index.ensures
    ∙ sym (ap (dependencies_at s vs) (seen_numbered_index c.args.expr.now c.in-Index.place c.in-Index.receiver c.in-Index.indices c.in-Index.is)))
    c.all-in-Index.ensures

pub dependencies-returns-in_ok-dependencies-in-Member : goal.dependencies-returns-in_ok-dependencies-in-Member
dependencies-returns-in_ok-dependencies-in-Member t c =
    let s = c.args.site in
    let vs = c.args.inside.now in
    let r = c.deref_expr-receiver-in-Member.result.now in
    let xs = c.deref_exprs-in-Member.result.now in
    pushed_three c.all-in-Member.result c.args.out.now.items c.plain_if-in-Member.new.out.items c.dependencies-in-Member.new.out.items
    c.all-in-Member.new.out.items (plain_if (not c.tells.result)) (dependencies_at s vs (expression_of r))
    (all_dependencies_at s vs (numbered_exps (map expression_of xs))) (dependencies_at s vs (expression_of c.args.expr.now))
    c.in_ok-plain_if-in-Member.ensures c.in_ok-dependencies-in-Member.ensures
    (ap (λ (b : Bool). plain_if (not b) ++ (dependencies_at s vs (expression_of r) ++ all_dependencies_at s vs (numbered_exps (map expression_of xs)))) c.tells.ensures
    ∙ ap₂ (λ (a : Expr) (ys : List Expr). member_dependencies_at s vs a c.in-Member.name ys) c.deref_expr-receiver-in-Member.ensures c.deref_exprs-in-Member.ensures
    ∙ sym (ap (dependencies_at s vs) (seen_numbered_member c.args.expr.now c.in-Member.place c.in-Member.receiver c.in-Member.name c.in-Member.args c.in-Member.is)))
    c.all-in-Member.ensures
