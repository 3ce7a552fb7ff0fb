use Rattle.std.proofs.Common.{ℕ, Bool, false, get_or, option_map, ap, ◌∙◌, arith}
use borrow.Enum.Known.{ValuesAt}
use Rattle.ti_base.specs.declared.place.Place.{Place}
use Rattle.ti_syntax.specs.Trees.Views.{maybe_of}
use Rattle.ti_lang.specs.contracts.program.stmts.Stmt.{enum}
use Rattle.ti_lang.specs.Program.Views.{expression_of, statement_of}
use Rattle.ti_single.specs.Mirrors.Maybe.{maybe_in}
use Rattle.ti_blame.specs.Marks.{marks_of}
use Rattle.ti_infer.specs.Marked.{marked_exp, marked_stm, marked_maybe}
use Rattle.ti_infer.proofs.Turning.{turned}
use Rattle.ti_infer.proofs.PlainBodies.{held_at}
use Rattle.ti_infer.proofs.MarkedBodies.{held_by, block_marked, if_marked, while_marked, foreach_marked, for_marked}
use Rattle.ti_infer.proofs.annotate.stmts.+mark_statement.Goals as goal

pub mark_statement-returns-in_ok-mark_statements-in-Block : goal.mark_statement-returns-in_ok-mark_statements-in-Block
mark_statement-returns-in_ok-mark_statements-in-Block t c =
    rw (held_at 11 (c.in-Block.body, tt) c.args.node.now c.in-Block.is)
    (block_marked (λ number. get_or c.args.variables.now.singles.items number false) (marks_of c.args.marks.now).variables c.args.node.now c.in-Block.body c.mark_statements.new.stmts c.in-Block.is
    (rw c.in-Block.body-is at c.in_ok-mark_statements-in-Block.ensures))

pub mark_statement-returns-in_ok-mark_maybe-in-If : goal.mark_statement-returns-in_ok-mark_maybe-in-If
mark_statement-returns-in_ok-mark_maybe-in-If t c =
    let f : ℕ → Bool = λ number. get_or c.args.variables.now.singles.items number false in
    let d : Place → Bool = (marks_of c.args.marks.now).variables in
    let v : ValuesAt enum.parts 12 = (c.in-If.place, (c.in-If.condition, (c.in-If.then, (c.in-If.otherwise, tt)))) in
    rw (held_by 12 v v c.args.node.now c.in-If.is)
    (if_marked f d c.args.node.now c.in-If.place c.in-If.condition c.set_uses-in-If.new.node c.in-If.then
    (record c.in-If.then { value = c.mark_statement.new.node }) c.in-If.otherwise c.mark_maybe.new.node c.in-If.is
    (c.set_uses-in-If.ensures ∙ ap (λ z. marked_exp f (expression_of z)) c.in-If.condition-is)
    (c.in_ok-mark_statement-in-If.ensures ∙ ap (λ z. marked_stm f d (statement_of z)) (c.deref_mut-in-If.ensures.value ∙ ap (λ b. b.value) c.in-If.then-is))
    (c.in_ok-mark_maybe-in-If.ensures ∙ ap (λ o. marked_maybe f d (maybe_in o)) c.in-If.otherwise-is))

pub mark_statement-returns-in_ok-mark_statement-in-While : goal.mark_statement-returns-in_ok-mark_statement-in-While
mark_statement-returns-in_ok-mark_statement-in-While t c =
    let f : ℕ → Bool = λ number. get_or c.args.variables.now.singles.items number false in
    let d : Place → Bool = (marks_of c.args.marks.now).variables in
    let v : ValuesAt enum.parts 13 = (c.in-While.place, (c.in-While.condition, (c.in-While.body, tt))) in
    rw (held_by 13 v v c.args.node.now c.in-While.is)
    (while_marked f d c.args.node.now c.in-While.place c.in-While.condition c.in-While.body _ _ c.in-While.is
    (c.set_uses-in-While.ensures ∙ ap (λ z. marked_exp f (expression_of z)) c.in-While.condition-is)
    (c.in_ok-mark_statement-in-While.ensures ∙ ap (λ z. marked_stm f d (statement_of z)) (c.deref_mut-in-While.ensures.value ∙ ap (λ b. b.value) c.in-While.body-is)))

pub mark_statement-returns-in_ok-mark_statement-in-For : goal.mark_statement-returns-in_ok-mark_statement-in-For
mark_statement-returns-in_ok-mark_statement-in-For t c =
    let f : ℕ → Bool = λ number. get_or c.args.variables.now.singles.items number false in
    let d : Place → Bool = (marks_of c.args.marks.now).variables in
    let v : ValuesAt enum.parts 14 = (c.in-For.place, (c.in-For.first, (c.in-For.condition, (c.in-For.update, (c.in-For.body, tt))))) in
    rw (held_by 14 v v c.args.node.now c.in-For.is)
    (for_marked f d c.args.node.now c.in-For.place c.in-For.first c.in-For.update c.mark_maybe-in-For.new.node c.mark_maybe-in-For-2.new.node
    c.in-For.condition c.set_in_maybe-in-For.new.node c.in-For.body (record c.in-For.body { value = c.mark_statement-in-For.new.node }) c.in-For.is
    (c.in_ok-mark_maybe-in-For.ensures ∙ ap (λ o. marked_maybe f d (maybe_in o)) c.in-For.first-is)
    (c.set_in_maybe-in-For.ensures ∙ ap (λ o. option_map (marked_exp f) (maybe_of expression_of o)) c.in-For.condition-is)
    (c.in_ok-mark_maybe-in-For-2.ensures ∙ ap (λ o. marked_maybe f d (maybe_in o)) c.in-For.update-is)
    (c.in_ok-mark_statement-in-For.ensures ∙ ap (λ z. marked_stm f d (statement_of z)) (c.deref_mut-in-For.ensures.value ∙ ap (λ b. b.value) c.in-For.body-is)))

pub mark_statement-returns-in_ok-mark_statement-in-Foreach : goal.mark_statement-returns-in_ok-mark_statement-in-Foreach
mark_statement-returns-in_ok-mark_statement-in-Foreach t c =
    let f : ℕ → Bool = λ number. get_or c.args.variables.now.singles.items number false in
    let d : Place → Bool = (marks_of c.args.marks.now).variables in
    let v : ValuesAt enum.parts 15 = (c.in-Foreach.place, (c.in-Foreach.variable, (c.in-Foreach.domain, (c.in-Foreach.body, tt)))) in
    rw (held_by 15 v v c.args.node.now c.in-Foreach.is)
    (foreach_marked f d c.args.node.now c.in-Foreach.place c.in-Foreach.variable c.in-Foreach.domain c.in-Foreach.body _ _ c.in-Foreach.is
    (c.set_uses-in-Foreach.ensures ∙ ap (λ z. marked_exp f (expression_of z)) c.in-Foreach.domain-is)
    (c.in_ok-mark_statement-in-Foreach.ensures ∙ ap (λ z. marked_stm f d (statement_of z)) (c.deref_mut-in-Foreach.ensures.value ∙ ap (λ b. b.value) c.in-Foreach.body-is)))

pub mark_statements-returns : goal.mark_statements-returns
mark_statements-returns t c =
    turned statement_of (marked_stm (λ number. get_or c.args.variables.now.singles.items number false) (marks_of c.args.marks.now).variables) _ _ c.loop-i.invariant.0.0
    (λ k d lt. c.loop-i.invariant.1 k d (omega (arith, c.len-i-end.ensures)))
