use Rattle.std.specs.Int.{w32}
use Rattle.ti_base.proofs.WholeLaws.{quotient_wraps}
use Rattle.ti_base.proofs.int_calls.int_div.Goals as goal

pub returns-clause-value : goal.returns-clause-value
returns-clause-value c = quotient_wraps w32 c.args.left c.args.right c.wrapping_div.result c.ranges.left c.ranges.right c.wrapping_div.ensures
