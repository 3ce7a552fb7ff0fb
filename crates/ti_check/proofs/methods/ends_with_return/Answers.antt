use Rattle.std.proofs.Common.{ap, ◌∙◌, arith}
use Rattle.ti_lang.specs.Program.Views.{statement_of}
use Rattle.ti_rules.specs.TypeRules.{is_return}
use Rattle.ti_check.proofs.Ends.{last_is}
use Rattle.ti_check.proofs.methods.ends_with_return.Goals as goal

pub returns : goal.returns
returns c = c.is_return.ensures ∙ ap (λ z. is_return (statement_of z)) c.index-body-last.is ∙ last_is c.args.body.now c.index-body-last.result (omega arith)
