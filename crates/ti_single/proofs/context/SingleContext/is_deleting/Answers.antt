use Rattle.std.proofs.Common.{ap, ◌∙◌}
use Rattle.ti_lang.specs.Program.Views.{expression_of}
use Rattle.ti_lang.specs.Typing.Called.{member_called}
use Rattle.ti_rules.specs.SingleRules.{is_delete}
use Rattle.ti_single.specs.Contexts.{program_at}
use Rattle.ti_single.proofs.context.SingleContext.is_deleting.Goals as goal

pub returns : goal.returns
returns c = c.is_delete.ensures ∙ ap is_delete (c.member_called-member.ensures
    ∙ ap (λ this. member_called (program_at c.args.self) this (expression_of c.args.receiver.now) c.args.name) c.this-this.ensures)
