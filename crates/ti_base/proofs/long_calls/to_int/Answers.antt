use Rattle.ti_base.proofs.WholeLaws.{narrows}
use Rattle.ti_base.proofs.long_calls.to_int.Goals as goal

pub returns : goal.returns
returns c = narrows c.args.number c.cast_signed.result c.cast_unsigned.result c.ranges.number c.cast_unsigned.ensures c.cast_signed.ensures
