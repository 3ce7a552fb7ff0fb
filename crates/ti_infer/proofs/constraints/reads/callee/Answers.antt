use Rattle.std.proofs.Common.{ap, ◌∙◌}
use Rattle.ti_lang.specs.Program.Views.{expression_of}
use Rattle.ti_lang.specs.Typing.Called.{called_method}
use Rattle.ti_infer.specs.Mirrors.Sites.{program_at}
use Rattle.ti_infer.proofs.constraints.reads.callee.Goals as goal

pub returns : goal.returns
returns c = c.called_method.ensures ∙ ap (λ this. called_method (program_at c.args.site) this (expression_of c.args.expr.now)) c.this_of.ensures
