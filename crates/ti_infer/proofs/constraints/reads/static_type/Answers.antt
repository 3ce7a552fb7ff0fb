use Rattle.std.proofs.Common.{ap, ◌∙◌}
use Rattle.ti_lang.specs.Program.Views.{expression_of}
use Rattle.ti_lang.specs.Typing.TextTypes.{syntactic_type}
use Rattle.ti_infer.specs.Mirrors.Sites.{program_at}
use Rattle.ti_infer.proofs.constraints.reads.static_type.Goals as goal

pub returns : goal.returns
returns c = c.syntactic_type.ensures ∙ ap (λ this. syntactic_type (program_at c.args.site) this (expression_of c.args.expr.now)) c.this_of.ensures
