use Rattle.std.proofs.Common.{◌≡◌, ◌+◌, ◌++◌, OnOk, ap, sym, ◌∙◌, subst}
use Rattle.ti_syntax.specs.Trees.Views.{maybe_of}
use Rattle.ti_lang.specs.declared.program.stmts.Stmt.{Stmt}
use Rattle.ti_lang.specs.Program.Scope.{contents_of}
use Rattle.ti_lang.specs.Program.Statements.{NumberedStm}
use Rattle.ti_lang.specs.Program.Views.{expression_of, statement_of}
use Rattle.ti_single.specs.Mirrors.Maybe.{maybe_in}
use Rattle.ti_infer.specs.Mirrors.Sites.{inside_of}
use Rattle.ti_infer.specs.Mirrors.StmtSites.{edges_around}
use Rattle.ti_infer.proofs.Walking.{for_is, for_walked, foreach_walked}
use Rattle.ti_infer.proofs.constraints.walk.+walk.Goals as goal

pub statement-returns-in_ok-maybe-in-For-2 : goal.statement-returns-in_ok-maybe-in-For-2
statement-returns-in_ok-maybe-in-For-2 t c =
    subst (λ (x : NumberedStm). OnOk c.statement-in-For.result (c.statement-in-For.new.out.items ≡ c.args.out.now.items ++ edges_around c.args.context c.args.index c.args.jump.now x))
    (sym (ap statement_of c.in-For.is ∙ for_is c.in-For.place c.in-For.first c.in-For.c c.in-For.update c.in-For.body))
    (for_walked c.args.context c.args.index c.args.jump.now c.in-For.place c.statement-in-For.result c.in_ok-second-in-For.second
    c.in_ok-third-in-For.third c.deref-in-For.result.now c.deref-in-For-2.result.now (maybe_in c.in-For.first)
    (maybe_in c.in-For.update)
    (maybe_of expression_of c.in-For.c) (statement_of c.deref_stmt-body-in-For.result.now)
    (statement_of c.in-For.body.value) c.args.out.now.items c.own_for.new.out.items c.maybe.new.out.items c.maybe-in-For.new.out.items
    c.statement-in-For.new.out.items
    (c.in_ok-second-in-For.ensures.place ∙ ap (λ n. c.args.index + n) c.in_ok-size_of_maybe-in-For.ensures) (c.in_ok-third-in-For.ensures.place
    ∙ ap (λ n. c.in_ok-second-in-For.second + n) c.in_ok-size_of_maybe-in-For-2.ensures)
    (ap statement_of c.deref_stmt-body-in-For.ensures) (c.deref-in-For.ensures.value ∙ c.in_ok-whats-in-For.ensures)
    (c.deref-in-For-2.ensures.value ∙ c.in_ok-whats-in-For.ensures) c.in_ok-own_for-in-For.ensures c.in_ok-maybe-in-For.ensures
    c.in_ok-maybe-in-For-2.ensures c.statement-in-For.ensures)

pub statement-returns-in_ok-inside-in-Foreach : goal.statement-returns-in_ok-inside-in-Foreach
statement-returns-in_ok-inside-in-Foreach t c =
    subst (λ (x : Stmt). OnOk c.statement-in-Foreach.result (c.statement-in-Foreach.new.out.items ≡ c.args.out.now.items
    ++ edges_around c.args.context c.args.index c.args.jump.now (statement_of x))) (sym c.in-Foreach.is)
    (foreach_walked c.args.context c.args.index c.args.jump.now c.in-Foreach.place c.statement-in-Foreach.result c.in-Foreach.variable
    c.deref-in-Foreach.result.now c.deref-in-Foreach-3.result.now (expression_of c.in-Foreach.domain)
    (statement_of c.deref_stmt-body-in-Foreach.result.now) (statement_of c.in-Foreach.body.value)
    (contents_of c.in_ok-scope-in-Foreach.scope).variables (inside_of c.deref-in-Foreach-2.result.now) (edges_around c.with_scope.result)
    c.args.out.now.items c.condition-in-Foreach.new.out.items c.statement-in-Foreach.new.out.items
    (ap statement_of c.deref_stmt-body-in-Foreach.ensures) (c.deref-in-Foreach.ensures.value ∙ c.in_ok-whats-in-Foreach.ensures)
    (c.deref-in-Foreach-3.ensures.value ∙ c.in_ok-whats-in-Foreach.ensures) c.in_ok-scope-in-Foreach.ensures.variables
    (ap inside_of c.deref-in-Foreach-2.ensures.value ∙ c.in_ok-inside-in-Foreach.ensures) c.with_scope.ensures
    c.in_ok-condition-in-Foreach.ensures c.statement-in-Foreach.ensures)
