use Rattle.std.proofs.Common.{ap₂, sym, ◌∙◌}
use Rattle.ti_lang.specs.Program.Classes.{ProgramView}
use Rattle.ti_lang.specs.Program.Scope.{this_of}
use Rattle.ti_lang.specs.Program.Views.{statement_of}
use Rattle.ti_lang.specs.Typing.Effects.{doings}
use Rattle.ti_rules.specs.Mirrors.First.{earliest}
use Rattle.ti_rules.specs.SingleRules.{single_refusals_at}
use Rattle.ti_rules.specs.StmtInContext.{StmtContext}
use Rattle.ti_single.specs.EffectsAt.{effects_in_loop}
use Rattle.ti_check.proofs.context.CheckContext.single.Goals as goal

pub refusal-requires-clause-own : goal.refusal-requires-clause-own
refusal-requires-clause-own c =
    c.requires.own ∙ sym (ap₂ (λ (p : ProgramView) (a : StmtContext). doings p (this_of a.method) (statement_of c.args.stmt.now)) c.single_site.ensures.program c.single_site.ensures.around)

pub refusal-requires-clause-inside : goal.refusal-requires-clause-inside
refusal-requires-clause-inside c =
    c.requires.inside ∙ sym (ap₂ (λ (p : ProgramView) (a : StmtContext). effects_in_loop p a.method (statement_of c.args.stmt.now)) c.single_site.ensures.program c.single_site.ensures.around)

pub returns : goal.returns
returns c = c.refusal.ensures ∙ ap₂ (λ (p : ProgramView) (a : StmtContext). earliest (single_refusals_at p a (statement_of c.args.stmt.now))) c.single_site.ensures.program c.single_site.ensures.around
