use Rattle.std.proofs.Common.{ap₂, ◌∙◌}
use Rattle.ti_lang.specs.Program.Classes.{ProgramView}
use Rattle.ti_lang.specs.Program.Scope.{this_of}
use Rattle.ti_lang.specs.Program.Views.{expression_of}
use Rattle.ti_lang.specs.Typing.Singleness.{is_single_part}
use Rattle.ti_rules.specs.StmtInContext.{StmtContext, singles_in, scope_of}
use Rattle.ti_check.proofs.context.CheckContext.is_single_inside.Goals as goal

pub returns : goal.returns
returns c = c.is_single_inside.ensures ∙ ap₂ (λ (p : ProgramView) (a : StmtContext). is_single_part p (this_of a.method)
    (singles_in (scope_of a)) (expression_of c.args.expr.now)) c.single_site.ensures.program c.single_site.ensures.around
