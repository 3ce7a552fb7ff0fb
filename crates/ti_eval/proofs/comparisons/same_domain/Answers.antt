use Rattle.ti_eval.proofs.Points.{tells_same}
use Rattle.ti_eval.proofs.comparisons.same_domain.Goals as goal

pub returns : goal.returns
returns c = tells_same _ c.args.domain.now.points c.args.other.now.points c.dom_same.ensures
