use Rattle.ti_eval.proofs.Bits.{count_of_int}
use Rattle.ti_eval.proofs.numbers.count_of.Goals as goal

pub returns : goal.returns
returns c = count_of_int c.args.number c.to_int.result c.ranges.number c.to_int.ensures
