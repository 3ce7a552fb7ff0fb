use Rattle.std.proofs.Common.{◌∙◌, ap}
use Rattle.ti_lang.specs.Program.Views.{program_of, expression_of}
use Rattle.ti_lang.specs.Typing.Called.{member_called}
use Rattle.ti_eval.proofs.env.called_member.Goals as goal

pub returns : goal.returns
returns c =
    c.member_called.ensures ∙ ap (λ this. member_called (program_of c.args.env.now.program.now) this (expression_of c.args.receiver.now) c.args.name) c.class_of_this.ensures
