use Rattle.std.proofs.Common.{false, ap, sym, ◌∙◌}
use Rattle.ti_rules.specs.declared.rule.Rule.TheVariants.{Y8}
use Rattle.ti_rules.specs.Refusals.{refused_if}
use Rattle.ti_rules.specs.Mirrors.First.{earliest}
use Rattle.ti_check.proofs.Where.{jump_nowhere}
use Rattle.ti_check.proofs.context.CheckContext.jump.Goals as goal

pub returns : goal.returns
returns c = c.refused_if.ensures ∙ sym (ap (λ b. earliest (refused_if b Y8 c.args.place)) (jump_nowhere c.args.self.is_in_loop false))
