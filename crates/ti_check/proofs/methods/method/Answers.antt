use Rattle.std.proofs.Common.{◌≡◌, false, List, [], map, Option, None, sym, ap, ◌∙◌, subst}
use Rattle.std.specs.Option.{option_map_or}
use Rattle.ti_lang.specs.Program.Classes.{NumberedMethod}
use Rattle.ti_lang.specs.Program.Scope.{ScopeVariable, ScopeContents, contents_of, parameters, method_scope, this_of}
use Rattle.ti_lang.specs.Program.Statements.{numbered_stms}
use Rattle.ti_lang.specs.Program.Views.{program_of, statement_of, numbered_method_of}
use Rattle.ti_lang.specs.Typing.Effects.{doings_of_all}
use Rattle.ti_rules.specs.StmtInContext.{StmtContext, inside_all, standing_in_method}
use Rattle.ti_check.specs.declared.reports.Refusals.{Refusals}
use Rattle.ti_check.specs.Mirrors.Refusals.{AreStmtRefusals}
use Rattle.ti_check.proofs.Heads.{method_found}
use Rattle.ti_check.proofs.StmtReport.{same_found}
use Rattle.ti_check.proofs.methods.method.Goals as goal

pub effects-requires-clause-body : goal.effects-requires-clause-body
effects-requires-clause-body c =
    c.in_ok-body.ensures.doings ∙ ap (λ l. doings_of_all (program_of c.args.program.now.parts) (this_of (numbered_method_of c.args.method.now)) (numbered_stms (map statement_of l))) c.deref_stmts.ensures

pub returns : goal.returns
returns c =
    let p = program_of c.args.program.now.parts in
    let m = numbered_method_of c.args.method.now in
    let own : Refusals = record { types = c.earlier_of.result; single = c.earlier_of-2.result } in
    let around : List ScopeVariable → StmtContext = λ v. record { method = m; variables = v; jump_has = None } in
    let variables = (contents_of c.in_ok-scope.scope).variables in
    let nowhere : ScopeContents = record { this_class = None; variables = [] } in
    let is_variables : variables ≡ parameters m.params = ap (λ (s : ScopeContents). s.variables) (c.in_ok-scope.ensures.contents
    ∙ ap (λ (o : Option NumberedMethod). option_map_or method_scope o nowhere) c.requires.is_method) in
    method_found p m c.head.result c.end.result c.effects.result c.single_result.result own c.outside.result c.and.result c.head.ensures
    c.end.ensures c.earlier_of.ensures c.effects.ensures c.single_result.ensures c.earlier_of-2.ensures
    (same_found p (inside_all p (around variables) (numbered_stms (map statement_of c.deref_stmts.result.now))) (standing_in_method p m) c.outside.result
    (ap (λ l. inside_all p (around variables) (numbered_stms (map statement_of l))) c.deref_stmts.ensures ∙ ap (λ v. inside_all p (around v) (numbered_stms m.body)) is_variables)
    (subst (AreStmtRefusals p (inside_all p (around variables) (numbered_stms (map statement_of c.deref_stmts.result.now)))) (sym c.outside.ensures) (c.in_ok-body.ensures.found false)))
    c.and.ensures.types c.and.ensures.single
