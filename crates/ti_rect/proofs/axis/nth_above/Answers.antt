use Rattle.ti_rect.proofs.ReadBack.{sum_fits, sum_back}
use Rattle.ti_rect.proofs.axis.nth_above.Goals as goal

pub overflow_cast-result-2 : goal.overflow_cast-result-2
overflow_cast-result-2 c =
    sum_fits c.args.low c.args.top c.from-2.result c.args.steps c.args.step c.from.result c.ranges.low c.ranges.top c.requires c.from-2.ensures c.from.ensures

pub returns : goal.returns
returns c =
    sum_back c.args.low c.args.top c.from-2.result c.args.steps c.args.step c.from.result c.ranges.low c.ranges.top c.requires c.from-2.ensures c.from.ensures
