use Rattle.std.proofs.Common.{Some, ap, sym, ◌∙◌}
use Rattle.ti_lang.specs.Program.Views.{numbered_method_of}
use Rattle.ti_lang.proofs.Lemmas.{method_here}
use Rattle.ti_check.proofs.checking.method_of.Goals as goal

pub returns : goal.returns
returns c = method_here c.args.methods.now c.args.index c.index-methods-index.result c.requires ∙ ap (λ z. Some (numbered_method_of z)) (sym c.index-methods-index.is)
