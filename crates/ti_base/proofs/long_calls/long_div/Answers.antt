use Rattle.std.specs.Int.{w64}
use Rattle.ti_base.proofs.WholeLaws.{quotient_wraps}
use Rattle.ti_base.proofs.long_calls.long_div.Goals as goal

pub returns-clause-value : goal.returns-clause-value
returns-clause-value c = quotient_wraps w64 c.args.left c.args.right c.wrapping_div.result c.ranges.left c.ranges.right c.wrapping_div.ensures
