use Rattle.std.proofs.Common.{◌≡◌, Bool, List, [], ◌++◌, map, Some, ap, sym, ◌∙◌, subst, arith}
use Rattle.ti_lang.specs.Program.Scope.{ScopeVariable, this_of, contents_of}
use Rattle.ti_lang.specs.Program.Statements.{numbered_stms}
use Rattle.ti_lang.specs.Program.Views.{expression_of, statement_of}
use Rattle.ti_lang.specs.Typing.Effects.{together, kept_in_loop, doings, doings_of_all, doings_of_maybe}
use Rattle.ti_rules.specs.StmtInContext.{StmtContext, scope_of, variables_inside, loop_acts, inside, inside_maybe, inside_all}
use Rattle.ti_lang.proofs.Lemmas.{seen_numbered_block}
use Rattle.ti_single.specs.Effects.{effects_of}
use Rattle.ti_single.specs.EffectsAt.{effects_in_loop}
use Rattle.ti_single.specs.Mirrors.Maybe.{maybe_in}
use Rattle.ti_single.proofs.Lemmas.{doings_step, doings_end}
use Rattle.ti_check.specs.declared.reports.StmtReport.{StmtReport}
use Rattle.ti_check.specs.Mirrors.Refusals.{inner_statements}
use Rattle.ti_check.specs.Mirrors.Contexts.{program_at, around_where, around_of}
use Rattle.ti_check.specs.Mirrors.StmtReport.{IsStmtReport}
use Rattle.ti_check.proofs.Where.{where_first, where_next, where_last, both_walked, same_walked, moved_walked, moved_doings, nothing_walked, loop_walked, inside_does, alone_walked, alone_does, if_below, if_does, for_is}
use Rattle.ti_check.proofs.walk.+walk.Goals as goal

pub statements-loop-x-init : goal.statements-loop-x-init
statements-loop-x-init t c =
    let all = doings_of_all (program_at c.args.site) (this_of (around_of c.args.site).method) (numbered_stms (map statement_of c.args.stmts.now)) in (
      where_first (program_at c.args.site) (around_where c.args.site) c.args.stmts.now c.none.result c.with_effects-found.result c.with_effects-found.ensures,
      sym (ap (λ (w : StmtReport). together (effects_of w.doings) all) c.with_effects-found.ensures ∙ ap (λ d. together d all) c.none.ensures),
    )

pub statements-loop-x-preserved : goal.statements-loop-x-preserved
statements-loop-x-preserved t c =
    let p = program_at c.args.site in
    let found = effects_of c.loop-x.found.doings in (
      where_next p (around_where c.args.site) c.args.stmts.now c.loop-x.x-index c.x-item.result c.loop-x.found c.in_ok-next.next
          c.and-found.result (omega arith) c.x-item.is c.loop-x.invariant.0 c.in_ok-next.ensures.found
          c.and-found.ensures.types c.and-found.ensures.single c.and-found.ensures.jumping,
      doings_step p (this_of (around_of c.args.site).method) c.args.stmts.now c.loop-x.x-index c.x-item.result found (effects_of c.and-found.result.doings) _ (omega arith) c.x-item.is c.loop-x.invariant.1
          (c.and-found.ensures.doings ∙ ap (together found) c.in_ok-next.ensures.doings),
    )

pub statements-returns-clause-found : goal.statements-returns-clause-found
statements-returns-clause-found t c = where_last (program_at c.args.site) (around_where c.args.site) c.args.stmts.now c.loop-x.x-index c.loop-x.found (omega arith) c.loop-x.invariant.0

pub statements-returns-clause-doings : goal.statements-returns-clause-doings
statements-returns-clause-doings t c =
    doings_end (program_at c.args.site) (this_of (around_of c.args.site).method) c.args.stmts.now c.loop-x.x-index (effects_of c.loop-x.found.doings) _ (omega arith) c.loop-x.invariant.1

pub optional-returns-in-None-clause-found : goal.optional-returns-in-None-clause-found
optional-returns-in-None-clause-found t c =
    let p = program_at c.args.site in
    let around = around_where c.args.site in
    subst (λ o. IsStmtReport p (λ jump_has. inside_maybe p (around jump_has) (maybe_in o)) c.with_effects.result) (sym c.in-None.is)
    (subst (IsStmtReport p (λ jump_has. [])) (sym c.with_effects.ensures) (nothing_walked p c.none.result))

-- ---- a block

pub compound-stmt_report-requires-clause-below : goal.compound-stmt_report-requires-clause-below
compound-stmt_report-requires-clause-below t c =
    let p = program_at c.args.site in
    let around = around_where c.args.site in
    same_walked p (λ jump_has. inside_all p (around jump_has) (numbered_stms (map statement_of c.deref_stmts.result.now)))
    (λ jump_has. inner_statements p (around jump_has) (statement_of c.args.stmt.now)) c.in_ok-below-in-Block.below
    (ap (λ l jump_has. inside_all p (around jump_has) (numbered_stms (map statement_of l))) c.deref_stmts.ensures
    ∙ sym (ap (λ z jump_has. inner_statements p (around jump_has) z) (seen_numbered_block c.args.stmt.now c.in-Block.body c.in-Block.is)))
    c.in_ok-below-in-Block.ensures.found

pub compound-stmt_report-requires-clause-own : goal.compound-stmt_report-requires-clause-own
compound-stmt_report-requires-clause-own t c =
    let p = program_at c.args.site in
    let this = this_of (around_of c.args.site).method in
    c.in_ok-below-in-Block.ensures.doings ∙ ap (λ l. doings_of_all p this (numbered_stms (map statement_of l))) c.deref_stmts.ensures
    ∙ sym (ap (doings p this) (seen_numbered_block c.args.stmt.now c.in-Block.body c.in-Block.is))

-- ---- an if

pub compound-stmt_report-requires-in-If-clause-below : goal.compound-stmt_report-requires-in-If-clause-below
compound-stmt_report-requires-in-If-clause-below t c =
    let p = program_at c.args.site in
    let around = around_where c.args.site in
    let then = λ (jump_has : Bool). inside p (around jump_has) (statement_of c.deref_stmt.result.now) in
    let otherwise = λ (jump_has : Bool). inside_maybe p (around jump_has) (maybe_in c.in-If.otherwise) in
    same_walked p (λ jump_has. then jump_has ++ otherwise jump_has) (λ jump_has. inner_statements p (around jump_has) (statement_of c.args.stmt.now)) c.and.result
    (λ j jump_has. (ap (λ z. inside p (around jump_has) (statement_of z) ++ otherwise jump_has) c.deref_stmt.ensures
    ∙ if_below p (around jump_has) c.in-If.place c.in-If.condition c.in-If.then c.in-If.otherwise
    ∙ sym (ap (λ z. inner_statements p (around jump_has) (statement_of z)) c.in-If.is)) j)
    (both_walked p then otherwise c.in_ok-then-in-If.then c.in_ok-otherwise-in-If.otherwise c.and.result c.in_ok-then-in-If.ensures.found
    c.in_ok-otherwise-in-If.ensures.found c.and.ensures.types c.and.ensures.single
    c.and.ensures.jumping)

pub compound-stmt_report-requires-in-If-clause-own : goal.compound-stmt_report-requires-in-If-clause-own
compound-stmt_report-requires-in-If-clause-own t c =
    let p = program_at c.args.site in
    let this = this_of (around_of c.args.site).method in
    c.and.ensures.doings
    ∙ ap (λ d. together d (effects_of c.in_ok-otherwise-in-If.otherwise.doings)) (c.in_ok-then-in-If.ensures.doings ∙ ap (λ z. doings p this (statement_of z)) c.deref_stmt.ensures)
    ∙ ap (together (doings p this (statement_of c.in-If.then.value))) c.in_ok-otherwise-in-If.ensures.doings
    ∙ if_does p this c.in-If.place c.in-If.condition c.in-If.then c.in-If.otherwise
    ∙ sym (ap (λ z. doings p this (statement_of z)) c.in-If.is)

-- ---- a while

pub compound-stmt_report-requires-in-While-clause-below : goal.compound-stmt_report-requires-in-While-clause-below
compound-stmt_report-requires-in-While-clause-below t c =
    let p = program_at c.args.site in
    let around = around_of c.args.site in
    let within : Bool → StmtContext = λ jump_has. record around { jump_has = Some jump_has } in
    let body = statement_of c.in-While.body.value in
    let found = moved_walked p (program_at c.in_loop.result) (around_where c.in_loop.result) within
    (statement_of c.deref_stmt-in-While.result.now) body c.in_ok-body-in-While.body c.in_loop.ensures.program
    c.in_loop.ensures.around
    (ap statement_of c.deref_stmt-in-While.ensures) c.in_ok-body-in-While.ensures.found in
    let does = moved_doings p (program_at c.in_loop.result) (around_where c.in_loop.result) within
    (statement_of c.deref_stmt-in-While.result.now) body (effects_of c.in_ok-body-in-While.body.doings) c.in_loop.ensures.program
    c.in_loop.ensures.around (ap statement_of c.deref_stmt-in-While.ensures) c.in_ok-body-in-While.ensures.doings in
    subst (λ z. IsStmtReport p (λ jump_has. inner_statements p (around_where c.args.site jump_has) (statement_of z)) c.loop_report-below.result) (sym c.in-While.is)
    (alone_walked p around.method within body c.none-in-While.result c.with_effects.result c.in_ok-body-in-While.body c.loop_report-below.result
    c.with_effects.ensures c.none-in-While.ensures found does c.loop_report-below.ensures.types
    c.loop_report-below.ensures.single c.loop_report-below.ensures.jumping)

pub compound-stmt_report-requires-in-While-clause-own : goal.compound-stmt_report-requires-in-While-clause-own
compound-stmt_report-requires-in-While-clause-own t c =
    let p = program_at c.args.site in
    let around = around_of c.args.site in
    let within : Bool → StmtContext = λ jump_has. record around { jump_has = Some jump_has } in
    let body = statement_of c.in-While.body.value in
    let does = moved_doings p (program_at c.in_loop.result) (around_where c.in_loop.result) within
    (statement_of c.deref_stmt-in-While.result.now) body (effects_of c.in_ok-body-in-While.body.doings) c.in_loop.ensures.program
    c.in_loop.ensures.around (ap statement_of c.deref_stmt-in-While.ensures) c.in_ok-body-in-While.ensures.doings in
    alone_does p around.method body c.none-in-While.result c.with_effects.result c.in_ok-body-in-While.body c.loop_report-below.result c.with_effects.ensures c.none-in-While.ensures does c.loop_report-below.ensures.doings
    ∙ sym (ap (λ z. doings p (this_of around.method) (statement_of z)) c.in-While.is)

pub compound-stmt_report-requires-in-While-clause-inside : goal.compound-stmt_report-requires-in-While-clause-inside
compound-stmt_report-requires-in-While-clause-inside t c =
    let p = program_at c.args.site in
    let around = around_of c.args.site in
    let within : Bool → StmtContext = λ jump_has. record around { jump_has = Some jump_has } in
    moved_doings p (program_at c.in_loop.result) (around_where c.in_loop.result) within (statement_of c.deref_stmt-in-While.result.now)
    (statement_of c.in-While.body.value) (effects_of c.in_ok-body-in-While.body.doings)
    c.in_loop.ensures.program c.in_loop.ensures.around (ap statement_of c.deref_stmt-in-While.ensures) c.in_ok-body-in-While.ensures.doings
    ∙ sym (ap (λ z. effects_in_loop p around.method (statement_of z)) c.in-While.is)

-- ---- a for

pub compound-stmt_report-requires-in-For-clause-below : goal.compound-stmt_report-requires-in-For-clause-below
compound-stmt_report-requires-in-For-clause-below t c =
    let p = program_at c.args.site in
    let around = around_of c.args.site in
    let m = around.method in
    let within : Bool → StmtContext = λ jump_has. record around { jump_has = Some jump_has } in
    let body = statement_of c.in-For.body.value in
    let update = maybe_in c.in-For.update in
    let first = λ (jump_has : Bool). inside_maybe p (around_where c.args.site jump_has) (maybe_in c.in-For.first) in
    let updates = λ (jump_has : Bool). inside_maybe p (around_where c.args.site jump_has) update in
    let found = moved_walked p (program_at c.in_loop-in-For.result) (around_where c.in_loop-in-For.result) within
    (statement_of c.deref_stmt-in-For.result.now) body c.in_ok-body-in-For.body c.in_loop-in-For.ensures.program
    c.in_loop-in-For.ensures.around (ap statement_of c.deref_stmt-in-For.ensures) c.in_ok-body-in-For.ensures.found in
    let does = moved_doings p (program_at c.in_loop-in-For.result) (around_where c.in_loop-in-For.result) within
    (statement_of c.deref_stmt-in-For.result.now) body (effects_of c.in_ok-body-in-For.body.doings)
    c.in_loop-in-For.ensures.program c.in_loop-in-For.ensures.around (ap statement_of c.deref_stmt-in-For.ensures) c.in_ok-body-in-For.ensures.doings in
    let others = loop_walked p m within updates update body c.in_ok-update-in-For.update c.in_ok-body-in-For.body c.loop_report.result
    c.in_ok-update-in-For.ensures.found c.in_ok-update-in-For.ensures.doings found does
    c.loop_report.ensures.types c.loop_report.ensures.single c.loop_report.ensures.jumping in
    same_walked p (λ jump_has. first jump_has ++ (updates jump_has ++ inside p (within (loop_acts p m update body)) body))
    (λ jump_has. inner_statements p (around_where c.args.site jump_has) (statement_of c.args.stmt.now)) c.and-below.result
    (sym (ap (λ z jump_has. inner_statements p (around_where c.args.site jump_has) z) (ap statement_of c.in-For.is ∙ for_is c.in-For.place c.in-For.first c.in-For.condition c.in-For.update c.in-For.body)))
    (both_walked p first (λ jump_has. updates jump_has ++ inside p (within (loop_acts p m update body)) body) c.in_ok-first-in-For.first
    c.loop_report.result c.and-below.result c.in_ok-first-in-For.ensures.found others
    c.and-below.ensures.types c.and-below.ensures.single c.and-below.ensures.jumping)

pub compound-stmt_report-requires-in-For-clause-own : goal.compound-stmt_report-requires-in-For-clause-own
compound-stmt_report-requires-in-For-clause-own t c =
    let p = program_at c.args.site in
    let around = around_of c.args.site in
    let m = around.method in
    let within : Bool → StmtContext = λ jump_has. record around { jump_has = Some jump_has } in
    let body = statement_of c.in-For.body.value in
    let does = moved_doings p (program_at c.in_loop-in-For.result) (around_where c.in_loop-in-For.result) within
    (statement_of c.deref_stmt-in-For.result.now) body (effects_of c.in_ok-body-in-For.body.doings)
    c.in_loop-in-For.ensures.program c.in_loop-in-For.ensures.around (ap statement_of c.deref_stmt-in-For.ensures) c.in_ok-body-in-For.ensures.doings in
    c.and-below.ensures.doings
    ∙ ap (λ d. together d (effects_of c.loop_report.result.doings)) c.in_ok-first-in-For.ensures.doings
    ∙ ap (together (doings_of_maybe p (this_of m) (maybe_in c.in-For.first)))
    (c.loop_report.ensures.doings ∙ ap kept_in_loop (inside_does p m (maybe_in c.in-For.update) body c.in_ok-update-in-For.update c.in_ok-body-in-For.body c.in_ok-update-in-For.ensures.doings does))
    ∙ sym (ap (doings p (this_of m)) (ap statement_of c.in-For.is ∙ for_is c.in-For.place c.in-For.first c.in-For.condition c.in-For.update c.in-For.body))

pub compound-stmt_report-requires-in-For-clause-inside : goal.compound-stmt_report-requires-in-For-clause-inside
compound-stmt_report-requires-in-For-clause-inside t c =
    let p = program_at c.args.site in
    let around = around_of c.args.site in
    let m = around.method in
    let within : Bool → StmtContext = λ jump_has. record around { jump_has = Some jump_has } in
    let body = statement_of c.in-For.body.value in
    let does = moved_doings p (program_at c.in_loop-in-For.result) (around_where c.in_loop-in-For.result) within
    (statement_of c.deref_stmt-in-For.result.now) body (effects_of c.in_ok-body-in-For.body.doings)
    c.in_loop-in-For.ensures.program c.in_loop-in-For.ensures.around (ap statement_of c.deref_stmt-in-For.ensures) c.in_ok-body-in-For.ensures.doings in
    c.merge.ensures ∙ inside_does p m (maybe_in c.in-For.update) body c.in_ok-update-in-For.update c.in_ok-body-in-For.body c.in_ok-update-in-For.ensures.doings does
    ∙ sym (ap (effects_in_loop p m) (ap statement_of c.in-For.is ∙ for_is c.in-For.place c.in-For.first c.in-For.condition c.in-For.update c.in-For.body))

-- ---- a foreach

pub compound-stmt_report-requires-in-Foreach-clause-below : goal.compound-stmt_report-requires-in-Foreach-clause-below
compound-stmt_report-requires-in-Foreach-clause-below t c =
    let p = program_at c.args.site in
    let around = around_of c.args.site in
    let with_these : List ScopeVariable → Bool → StmtContext = λ v jump_has. record { method = around.method; variables = v; jump_has = Some jump_has } in
    let body = statement_of c.in-Foreach.body.value in
    let within = with_these (variables_inside p (scope_of around) c.in-Foreach.variable (expression_of c.in-Foreach.domain)) in
    let with_scope : (Bool → StmtContext) → Bool → StmtContext = λ a jump_has. record (a jump_has) { variables = (contents_of c.in_ok-scope-in-Foreach.scope).variables } in
    let is_around : around_where c.with_scope-inside.result ≡ within =
    c.with_scope-inside.ensures.around ∙ ap with_scope c.in_loop-within.ensures.around
    ∙ ap with_these c.in_ok-scope-in-Foreach.ensures.variables in
    let is_program = c.with_scope-inside.ensures.program ∙ c.in_loop-within.ensures.program in
    let found = moved_walked p (program_at c.with_scope-inside.result) (around_where c.with_scope-inside.result) within
    (statement_of c.deref_stmt-in-Foreach.result.now) body c.in_ok-body-in-Foreach.body is_program is_around
    (ap statement_of c.deref_stmt-in-Foreach.ensures) c.in_ok-body-in-Foreach.ensures.found in
    let does = moved_doings p (program_at c.with_scope-inside.result) (around_where c.with_scope-inside.result) within
    (statement_of c.deref_stmt-in-Foreach.result.now) body (effects_of c.in_ok-body-in-Foreach.body.doings) is_program is_around
    (ap statement_of c.deref_stmt-in-Foreach.ensures) c.in_ok-body-in-Foreach.ensures.doings in
    subst (λ z. IsStmtReport p (λ jump_has. inner_statements p (around_where c.args.site jump_has) (statement_of z)) c.loop_report-below-in-Foreach.result) (sym c.in-Foreach.is)
    (alone_walked p around.method within body c.none-in-Foreach.result c.with_effects-in-Foreach.result c.in_ok-body-in-Foreach.body
    c.loop_report-below-in-Foreach.result c.with_effects-in-Foreach.ensures c.none-in-Foreach.ensures found does
    c.loop_report-below-in-Foreach.ensures.types c.loop_report-below-in-Foreach.ensures.single c.loop_report-below-in-Foreach.ensures.jumping)

pub compound-stmt_report-requires-in-Foreach-clause-own : goal.compound-stmt_report-requires-in-Foreach-clause-own
compound-stmt_report-requires-in-Foreach-clause-own t c =
    let p = program_at c.args.site in
    let around = around_of c.args.site in
    let with_these : Bool → StmtContext = λ jump_has. record { method = around.method; variables = (contents_of c.in_ok-scope-in-Foreach.scope).variables; jump_has = Some jump_has } in
    let body = statement_of c.in-Foreach.body.value in
    let with_scope : (Bool → StmtContext) → Bool → StmtContext = λ a jump_has. record (a jump_has) { variables = (contents_of c.in_ok-scope-in-Foreach.scope).variables } in
    let is_around : around_where c.with_scope-inside.result ≡ with_these =
    c.with_scope-inside.ensures.around ∙ ap with_scope c.in_loop-within.ensures.around in
    let does = moved_doings p (program_at c.with_scope-inside.result) (around_where c.with_scope-inside.result) with_these
    (statement_of c.deref_stmt-in-Foreach.result.now) body (effects_of c.in_ok-body-in-Foreach.body.doings)
    (c.with_scope-inside.ensures.program ∙ c.in_loop-within.ensures.program) is_around (ap statement_of c.deref_stmt-in-Foreach.ensures) c.in_ok-body-in-Foreach.ensures.doings in
    alone_does p around.method body c.none-in-Foreach.result c.with_effects-in-Foreach.result c.in_ok-body-in-Foreach.body
    c.loop_report-below-in-Foreach.result c.with_effects-in-Foreach.ensures c.none-in-Foreach.ensures does
    c.loop_report-below-in-Foreach.ensures.doings
    ∙ sym (ap (λ z. doings p (this_of around.method) (statement_of z)) c.in-Foreach.is)

pub compound-stmt_report-requires-in-Foreach-clause-inside : goal.compound-stmt_report-requires-in-Foreach-clause-inside
compound-stmt_report-requires-in-Foreach-clause-inside t c =
    let p = program_at c.args.site in
    let around = around_of c.args.site in
    let with_these : Bool → StmtContext = λ jump_has. record { method = around.method; variables = (contents_of c.in_ok-scope-in-Foreach.scope).variables; jump_has = Some jump_has } in
    let with_scope : (Bool → StmtContext) → Bool → StmtContext = λ a jump_has. record (a jump_has) { variables = (contents_of c.in_ok-scope-in-Foreach.scope).variables } in
    let is_around : around_where c.with_scope-inside.result ≡ with_these =
    c.with_scope-inside.ensures.around ∙ ap with_scope c.in_loop-within.ensures.around in
    moved_doings p (program_at c.with_scope-inside.result) (around_where c.with_scope-inside.result) with_these (statement_of c.deref_stmt-in-Foreach.result.now) (statement_of c.in-Foreach.body.value)
    (effects_of c.in_ok-body-in-Foreach.body.doings) (c.with_scope-inside.ensures.program ∙ c.in_loop-within.ensures.program) is_around
    (ap statement_of c.deref_stmt-in-Foreach.ensures) c.in_ok-body-in-Foreach.ensures.doings
    ∙ sym (ap (λ z. effects_in_loop p around.method (statement_of z)) c.in-Foreach.is)
