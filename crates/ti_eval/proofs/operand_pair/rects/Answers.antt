use Rattle.std.proofs.Common.{refl, ap, sym, Some}
use Rattle.ti_eval.proofs.operand_pair.rects.Goals as goal

pub returns-then-rect-other-clause-domains : goal.returns-then-rect-other-clause-domains
returns-then-rect-other-clause-domains c = (c.args.rect.dim, refl, ap Some (sym c.if-rect-other.true))
