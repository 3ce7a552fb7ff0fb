use Rattle.std.proofs.Common.{ap, ◌∙◌}
use Rattle.ti_tests.proofs.Numbers.{number_got}
use Rattle.ti_tests.proofs.turnstiles.pairs.PairsKept.number_at.Goals as goal

pub returns : goal.returns
returns c = ap (λ e. e.0) c.index.ensures ∙ number_got c.args.self.now.items.items c.args.index c.index.result.now c.requires
