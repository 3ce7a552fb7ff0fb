use Rattle.std.specs.Int.{w64}
use Rattle.ti_base.proofs.WholeLaws.{subtracts}
use Rattle.ti_base.proofs.long_calls.long_sub.Goals as goal

pub returns : goal.returns
returns c = subtracts w64 c.args.left c.args.right c.ranges.left c.ranges.right
