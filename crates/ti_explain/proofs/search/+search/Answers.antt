use Rattle.std.proofs.Common.{List, [], ◌∷◌, ◌++◌, map, Some, None, ap, sym, ◌∙◌, subst, arith}
use Rattle.ti_lang.specs.Program.Scope.{ScopeVariable, contents_of}
use Rattle.ti_lang.specs.Program.Statements.{numbered_stms}
use Rattle.ti_lang.specs.Program.Statements as st
use Rattle.ti_lang.specs.Program.Views.{expression_of, statement_of}
use Rattle.ti_rules.specs.StmtInContext.{StmtContext, stands, in_loop, in_foreach, inside, inside_maybe, inside_all}
use Rattle.ti_lang.proofs.Lemmas.{seen_numbered_block}
use Rattle.ti_single.specs.Contexts.{program_at, around_of}
use Rattle.ti_single.specs.Mirrors.Maybe.{maybe_in}
use Rattle.ti_explain.specs.Mirrors.Found.{IsFound, in_this_loop, nested}
use Rattle.ti_explain.proofs.FoundLaws.{left_next, left_found, left_last, found_first, found_left, then_nested, then_right, same_found, moved_found, some_same, some_right, if_nested, for_is}
use Rattle.ti_explain.proofs.search.+search.Goals as goal

pub found_among-returns-in-Some : goal.found_among-returns-in-Some
found_among-returns-in-Some t c =
    let p = program_at c.args.site in
    let around = around_of c.args.site in
    left_found p c.args.sought around c.args.stmts.now c.loop-x.x-index c.x-item.result c.in-Some.found (omega arith) c.x-item.is c.loop-x.invariant
    (subst (IsFound p c.args.sought (inside p around (statement_of c.x-item.result))) c.in-Some.is c.in_ok-found.ensures)

pub found_among-loop-x-preserved : goal.found_among-loop-x-preserved
found_among-loop-x-preserved t c =
    let p = program_at c.args.site in
    let around = around_of c.args.site in
    left_next p c.args.sought around c.args.stmts.now c.loop-x.x-index c.x-item.result (omega arith) c.x-item.is c.loop-x.invariant
    (subst (IsFound p c.args.sought (inside p around (statement_of c.x-item.result))) c.in_default.is c.in_ok-found.ensures)

pub found_among-returns : goal.found_among-returns
found_among-returns t c =
    left_last (program_at c.args.site) c.args.sought (around_of c.args.site) c.args.stmts.now c.loop-x.x-index (omega arith) c.loop-x.invariant

pub found_in-returns-in-Some : goal.found_in-returns-in-Some
found_in-returns-in-Some t c =
    let p = program_at c.args.site in
    let around = around_of c.args.site in
    found_first p c.args.sought around (statement_of c.args.stmt.now) c.in-Some.found
    (subst (IsFound p c.args.sought (stands around (statement_of c.args.stmt.now) ∷ [])) c.in-Some.is c.in_ok-found.ensures)

pub found_in-returns : goal.found_in-returns
found_in-returns t c =
    let p = program_at c.args.site in
    let around = around_of c.args.site in
    then_nested p c.args.sought around (statement_of c.args.stmt.now) c.found_nested.result
    (subst (IsFound p c.args.sought (stands around (statement_of c.args.stmt.now) ∷ [])) c.in_default.is c.in_ok-found.ensures) c.found_nested.ensures

pub found_in_maybe-returns-in-Some : goal.found_in_maybe-returns-in-Some
found_in_maybe-returns-in-Some t c =
    let p = program_at c.args.site in
    let around = around_of c.args.site in
    same_found p c.args.sought (inside p around (statement_of c.deref_stmt.result.now)) (inside_maybe p around (maybe_in c.args.stmt.now)) c.found_in.result
    (ap (λ z. inside p around (statement_of z)) c.deref_stmt.ensures ∙ sym (ap (λ o. inside_maybe p around (maybe_in o)) c.in-Some.is)) c.found_in.ensures

pub found_nested-returns-in-Block : goal.found_nested-returns-in-Block
found_nested-returns-in-Block t c =
    let p = program_at c.args.site in
    let around = around_of c.args.site in
    same_found p c.args.sought (inside_all p around (numbered_stms (map statement_of c.deref_stmts.result.now))) (nested p around (statement_of c.args.stmt.now)) c.found_among.result
    (ap (λ l. inside_all p around (numbered_stms (map statement_of l))) c.deref_stmts.ensures
    ∙ sym (ap (nested p around) (seen_numbered_block c.args.stmt.now c.in-Block.body c.in-Block.is))) c.found_among.ensures

-- ---- an if

pub found_nested-returns-in-Some : goal.found_nested-returns-in-Some
found_nested-returns-in-Some t c =
    let p = program_at c.args.site in
    let around = around_of c.args.site in
    let then = inside p around (statement_of c.in-If.then.value) in
    let otherwise = inside_maybe p around (maybe_in c.in-If.otherwise) in
    some_same p c.args.sought (then ++ otherwise) (nested p around (statement_of c.args.stmt.now)) c.in-Some.found
    (if_nested p around c.in-If.place c.in-If.condition c.in-If.then c.in-If.otherwise ∙ sym (ap (λ z. nested p around (statement_of z)) c.in-If.is))
    (found_left p c.args.sought then otherwise c.in-Some.found
    (subst (λ z. IsFound p c.args.sought (inside p around (statement_of z)) (Some c.in-Some.found)) c.deref_stmt.ensures
    (subst (IsFound p c.args.sought (inside p around (statement_of c.deref_stmt.result.now))) c.in-Some.is c.in_ok-found-in-If.ensures)))

pub found_nested-returns-in_default : goal.found_nested-returns-in_default
found_nested-returns-in_default t c =
    let p = program_at c.args.site in
    let around = around_of c.args.site in
    let then = inside p around (statement_of c.in-If.then.value) in
    let otherwise = inside_maybe p around (maybe_in c.in-If.otherwise) in
    same_found p c.args.sought (then ++ otherwise) (nested p around (statement_of c.args.stmt.now)) c.found_in_maybe.result
    (if_nested p around c.in-If.place c.in-If.condition c.in-If.then c.in-If.otherwise ∙ sym (ap (λ z. nested p around (statement_of z)) c.in-If.is))
    (then_right p c.args.sought then otherwise c.found_in_maybe.result
    (subst (λ z. IsFound p c.args.sought (inside p around (statement_of z)) None) c.deref_stmt.ensures
    (subst (IsFound p c.args.sought (inside p around (statement_of c.deref_stmt.result.now))) c.in_default.is c.in_ok-found-in-If.ensures)) c.found_in_maybe.ensures)

-- ---- a while

pub found_nested-returns-in-While : goal.found_nested-returns-in-While
found_nested-returns-in-While t c =
    let p = program_at c.args.site in
    let around = around_of c.args.site in
    let body = statement_of c.in-While.body.value in
    same_found p c.args.sought (inside p (in_loop p around st.NoStm body) body) (nested p around (statement_of c.args.stmt.now)) c.found_in-in-While.result
    (sym (ap (λ z. nested p around (statement_of z)) c.in-While.is))
    (moved_found p (program_at c.in_loop.result) c.args.sought (around_of c.in_loop.result) (in_loop p around st.NoStm body)
    (statement_of c.deref_stmt-in-While.result.now) body c.found_in-in-While.result c.in_loop.ensures.program
    (c.in_loop.ensures.around ∙ ap (λ z. in_this_loop p around (statement_of z)) c.in-While.is)
    (ap statement_of c.deref_stmt-in-While.ensures) c.found_in-in-While.ensures)

-- ---- a for

pub found_nested-returns-in-Some-2 : goal.found_nested-returns-in-Some-2
found_nested-returns-in-Some-2 t c =
    let p = program_at c.args.site in
    let around = around_of c.args.site in
    let body = statement_of c.in-For.body.value in
    let update = maybe_in c.in-For.update in
    let first = inside_maybe p around (maybe_in c.in-For.first) in
    let rest = inside_maybe p around update ++ inside p (in_loop p around update body) body in
    some_same p c.args.sought (first ++ rest) (nested p around (statement_of c.args.stmt.now)) c.in-Some-2.found
    (sym (ap (nested p around) (ap statement_of c.in-For.is ∙ for_is c.in-For.place c.in-For.first c.in-For.condition c.in-For.update c.in-For.body)))
    (found_left p c.args.sought first rest c.in-Some-2.found (subst (IsFound p c.args.sought first) c.in-Some-2.is c.in_ok-found-in-For.ensures))

pub found_nested-returns-in-Some-3 : goal.found_nested-returns-in-Some-3
found_nested-returns-in-Some-3 t c =
    let p = program_at c.args.site in
    let around = around_of c.args.site in
    let body = statement_of c.in-For.body.value in
    let update = maybe_in c.in-For.update in
    let first = inside_maybe p around (maybe_in c.in-For.first) in
    let updates = inside_maybe p around update in
    let bodies = inside p (in_loop p around update body) body in
    some_same p c.args.sought (first ++ (updates ++ bodies)) (nested p around (statement_of c.args.stmt.now)) c.in-Some-3.found
    (sym (ap (nested p around) (ap statement_of c.in-For.is ∙ for_is c.in-For.place c.in-For.first c.in-For.condition c.in-For.update c.in-For.body)))
    (some_right p c.args.sought first (updates ++ bodies) c.in-Some-3.found
    (found_left p c.args.sought updates bodies c.in-Some-3.found (subst (IsFound p c.args.sought updates) c.in-Some-3.is c.in_ok-found-in-For-2.ensures)))

pub found_nested-returns-in_default-3 : goal.found_nested-returns-in_default-3
found_nested-returns-in_default-3 t c =
    let p = program_at c.args.site in
    let around = around_of c.args.site in
    let body = statement_of c.in-For.body.value in
    let update = maybe_in c.in-For.update in
    let first = inside_maybe p around (maybe_in c.in-For.first) in
    let updates = inside_maybe p around update in
    let bodies = inside p (in_loop p around update body) body in
    let is = ap statement_of c.in-For.is ∙ for_is c.in-For.place c.in-For.first c.in-For.condition c.in-For.update c.in-For.body in
    same_found p c.args.sought (first ++ (updates ++ bodies)) (nested p around (statement_of c.args.stmt.now)) c.found_in-in-For.result
    (sym (ap (nested p around) is))
    (then_right p c.args.sought first (updates ++ bodies) c.found_in-in-For.result
    (subst (IsFound p c.args.sought first) c.in_default-2.is c.in_ok-found-in-For.ensures)
    (then_right p c.args.sought updates bodies c.found_in-in-For.result
    (subst (IsFound p c.args.sought updates) c.in_default-3.is c.in_ok-found-in-For-2.ensures)
    (moved_found p (program_at c.in_loop-in-For.result) c.args.sought (around_of c.in_loop-in-For.result) (in_loop p around update body)
    (statement_of c.deref_stmt-in-For.result.now) body c.found_in-in-For.result c.in_loop-in-For.ensures.program
    (c.in_loop-in-For.ensures.around ∙ ap (in_this_loop p around) is)
    (ap statement_of c.deref_stmt-in-For.ensures) c.found_in-in-For.ensures)))

-- ---- a foreach

pub found_nested-returns-in_ok-scope-in-Foreach : goal.found_nested-returns-in_ok-scope-in-Foreach
found_nested-returns-in_ok-scope-in-Foreach t c =
    let p = program_at c.args.site in
    let around = around_of c.args.site in
    let body = statement_of c.in-Foreach.body.value in
    let domain = expression_of c.in-Foreach.domain in
    let with_these : List ScopeVariable → StmtContext → StmtContext = λ v a. record a { variables = v } in
    same_found p c.args.sought (inside p (in_foreach p around c.in-Foreach.variable domain body) body) (nested p around (statement_of c.args.stmt.now)) c.found_in-in-Foreach.result
    (sym (ap (λ z. nested p around (statement_of z)) c.in-Foreach.is))
    (moved_found p (program_at c.with_scope-within.result) c.args.sought (around_of c.with_scope-within.result) (in_foreach p around c.in-Foreach.variable domain body)
    (statement_of c.deref_stmt-in-Foreach.result.now) body c.found_in-in-Foreach.result (c.with_scope-within.ensures.program ∙ c.in_loop-in-Foreach.ensures.program)
    (c.with_scope-within.ensures.around
    ∙ ap (with_these (contents_of c.in_ok-scope-in-Foreach.scope).variables) (c.in_loop-in-Foreach.ensures.around ∙ ap (λ z. in_this_loop p around (statement_of z)) c.in-Foreach.is)
    ∙ ap (λ v. with_these v (in_loop p around st.NoStm body)) c.in_ok-scope-in-Foreach.ensures.variables)
    (ap statement_of c.deref_stmt-in-Foreach.ensures) c.found_in-in-Foreach.ensures)
