use Rattle.std.specs.Int.{w32}
use Rattle.ti_base.proofs.WholeLaws.{subtracts}
use Rattle.ti_base.proofs.int_calls.int_sub.Goals as goal

pub returns : goal.returns
returns c = subtracts w32 c.args.left c.args.right c.ranges.left c.ranges.right
