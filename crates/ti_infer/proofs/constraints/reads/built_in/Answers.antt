use Rattle.std.proofs.Common.{ap, ◌∙◌}
use Rattle.ti_lang.specs.Program.Views.{expression_of}
use Rattle.ti_lang.specs.Typing.Called.{member_called}
use Rattle.ti_infer.specs.Mirrors.Sites.{program_at}
use Rattle.ti_infer.proofs.constraints.reads.built_in.Goals as goal

pub returns : goal.returns
returns c = c.member_called.ensures ∙ ap (λ this. member_called (program_at c.args.site) this (expression_of c.args.receiver.now) c.args.name) c.this_of.ensures
