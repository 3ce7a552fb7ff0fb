use Rattle.std.proofs.Common.{◌∙◌, ap}
use Rattle.ti_lang.specs.Program.Views.{program_of, expression_of}
use Rattle.ti_lang.specs.Typing.TextTypes.{syntactic_type}
use Rattle.ti_eval.proofs.env.type_of.Goals as goal

pub returns : goal.returns
returns c =
    c.syntactic_type.ensures ∙ ap (λ this. syntactic_type (program_of c.args.env.now.program.now) this (expression_of c.args.expr.now)) c.class_of_this.ensures
