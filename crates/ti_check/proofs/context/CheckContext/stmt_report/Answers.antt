use Rattle.std.proofs.Common.{ap, ◌∙◌}
use Rattle.ti_lang.specs.Program.Scope.{contents_of}
use Rattle.ti_lang.specs.Program.Views.{statement_of}
use Rattle.ti_lang.specs.Typing.Effects.{together}
use Rattle.ti_single.specs.Effects.{effects_of}
use Rattle.ti_check.specs.declared.reports.StmtReport.{StmtReport}
use Rattle.ti_check.specs.Mirrors.Contexts.{program_at, around_where, around_of}
use Rattle.ti_check.proofs.Where.{own_first, whole_walked}
use Rattle.ti_check.proofs.context.CheckContext.stmt_report.Goals as goal

pub returns-clause-found : goal.returns-clause-found
returns-clause-found c =
    let p = program_at c.args.self in
    let m = (around_of c.args.self).method in
    let variables = (contents_of c.args.self.scope.now).variables in
    let x = statement_of c.args.stmt.now in
    let own : StmtReport = record { types = c.types.result; single = c.single-single.result; jumping = c.single_jumping.result; doings = c.none.result } in
    whole_walked p (around_where c.args.self) x own c.args.below c.and.result
    (own_first p m variables c.args.self.is_in_loop x own c.types.ensures c.single-single.ensures c.single_jumping.ensures)
    c.requires.below c.and.ensures.types
    c.and.ensures.single c.and.ensures.jumping

pub returns-clause-doings : goal.returns-clause-doings
returns-clause-doings c = c.and.ensures.doings ∙ ap (λ d. together d (effects_of c.args.below.doings)) c.none.ensures ∙ c.requires.own
