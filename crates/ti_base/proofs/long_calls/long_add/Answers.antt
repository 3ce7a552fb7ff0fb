use Rattle.std.specs.Int.{w64}
use Rattle.ti_base.proofs.WholeLaws.{adds}
use Rattle.ti_base.proofs.long_calls.long_add.Goals as goal

pub returns : goal.returns
returns c = adds w64 c.args.left c.args.right c.ranges.left c.ranges.right
