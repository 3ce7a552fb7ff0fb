use Rattle.std.proofs.Common.{ap, sym, ◌∙◌}
use Rattle.ti_lang.specs.Program.Views.{statement_of}
use Rattle.ti_rules.specs.Mirrors.First.{earliest}
use Rattle.ti_rules.specs.Broken.Statements.{statement_refusals}
use Rattle.ti_check.specs.Mirrors.Contexts.{program_at, around_of}
use Rattle.ti_check.proofs.context.CheckContext.types.Goals as goal

pub returns-in-Foreach : goal.returns-in-Foreach
returns-in-Foreach c = c.domain.ensures ∙ sym (ap (λ z. earliest (statement_refusals (program_at c.args.self) (around_of c.args.self) (statement_of z))) c.in-Foreach.is)
