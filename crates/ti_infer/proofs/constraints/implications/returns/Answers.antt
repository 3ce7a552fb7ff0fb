use Rattle.std.proofs.Common.{ap, ◌∙◌}
use Rattle.ti_lang.specs.Program.Views.{statement_of}
use Rattle.ti_lang.specs.Typing.Effects.{Doings, doings}
use Rattle.ti_infer.specs.Mirrors.Sites.{program_at}
use Rattle.ti_infer.proofs.constraints.implications.returns.Goals as goal

pub returns : goal.returns
returns c = ap (λ (d : Doings). d.returns) (c.stmt_effects.ensures ∙ ap (λ this. doings (program_at c.args.site) this (statement_of c.args.stmt.now)) c.this_of.ensures)
