use Rattle.std.proofs.Common.{ap, ◌∙◌}
use Rattle.ti_lang.specs.Program.Views.{statement_of}
use Rattle.ti_rules.specs.Mirrors.First.{earliest}
use Rattle.ti_rules.specs.Broken.Statements.{statement_refusals}
use Rattle.ti_single.specs.Contexts.{program_at, around_of}
use Rattle.ti_check.proofs.LoopOnly.{loop_only}
use Rattle.ti_check.proofs.parts.statement_refusal.Goals as goal

pub returns : goal.returns
returns c =
    let x = statement_of c.args.stmt.now in
    c.types.ensures ∙ (λ j. earliest (statement_refusals (c.check_context.ensures.program j) (c.check_context.ensures.around j) x))
    ∙ ap earliest (loop_only (program_at c.args.site) (around_of c.args.site) x)
