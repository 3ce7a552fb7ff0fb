use Rattle.std.specs.Int.{w32}
use Rattle.ti_base.proofs.WholeLaws.{adds}
use Rattle.ti_base.proofs.int_calls.int_add.Goals as goal

pub returns : goal.returns
returns c = adds w32 c.args.left c.args.right c.ranges.left c.ranges.right
