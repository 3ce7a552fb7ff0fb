use Rattle.std.proofs.Common.{[], sym, ap, ◌∙◌}
use Rattle.ti_lang.specs.Program.Scope.{contents_of}
use Rattle.ti_lang.specs.Program.Views.{statement_of}
use Rattle.ti_lang.specs.Typing.Effects.{doings}
use Rattle.ti_rules.proofs.Lemmas.{sooner_none}
use Rattle.ti_check.specs.declared.reports.StmtReport.{StmtReport}
use Rattle.ti_check.specs.Mirrors.Refusals.{inner_statements}
use Rattle.ti_check.specs.Mirrors.Contexts.{program_at, around_where, around_of}
use Rattle.ti_check.specs.Mirrors.StmtReport.{with_effects}
use Rattle.ti_check.proofs.Where.{own_first, whole_walked, same_walked, nothing_walked, simple_below, simple_no_loop}
use Rattle.ti_check.proofs.context.CheckContext.simple_report.Goals as goal

pub single-single-requires-clause-own : goal.single-single-requires-clause-own
single-single-requires-clause-own c =
    c.stmt_effects-does.ensures ∙ ap (λ this. doings (program_at c.args.self) this (statement_of c.args.stmt.now)) c.this.ensures

pub single-single-requires-clause-inside : goal.single-single-requires-clause-inside
single-single-requires-clause-inside c = c.none.ensures ∙ simple_no_loop (program_at c.args.self) (around_of c.args.self).method (statement_of c.args.stmt.now) c.requires

pub single_jumping-requires-clause-own : goal.single_jumping-requires-clause-own
single_jumping-requires-clause-own c =
    c.stmt_effects-does.ensures ∙ ap (λ this. doings (program_at c.args.self) this (statement_of c.args.stmt.now)) c.this.ensures

pub single_jumping-requires-clause-inside : goal.single_jumping-requires-clause-inside
single_jumping-requires-clause-inside c = c.none-2.ensures ∙ simple_no_loop (program_at c.args.self) (around_of c.args.self).method (statement_of c.args.stmt.now) c.requires

pub returns-clause-found : goal.returns-clause-found
returns-clause-found c =
    let p = program_at c.args.self in
    let m = (around_of c.args.self).method in
    let variables = (contents_of c.args.self.scope.now).variables in
    let x = statement_of c.args.stmt.now in
    let does = c.stmt_effects-does.result in
    let own : StmtReport = record { types = c.types.result; single = c.single-single.result; jumping = c.single_jumping.result; doings = does } in
    whole_walked p (around_where c.args.self) x own (with_effects does) own (own_first p m variables c.args.self.is_in_loop x own c.types.ensures c.single-single.ensures c.single_jumping.ensures)
    (same_walked p (λ jump_has. []) (λ jump_has. inner_statements p (around_where c.args.self jump_has) x) (with_effects does)
    (λ j jump_has. simple_below p (around_where c.args.self jump_has) x c.requires j) (nothing_walked p does))
    (sym (sooner_none own.types)) (sym (sooner_none own.single)) (sym (sooner_none own.jumping))

pub returns-clause-doings : goal.returns-clause-doings
returns-clause-doings c =
    c.stmt_effects-does.ensures ∙ ap (λ this. doings (program_at c.args.self) this (statement_of c.args.stmt.now)) c.this.ensures
