use Rattle.std.specs.Int.{w64}
use Rattle.ti_eval.proofs.Bits.{and_is, or_is, xor_is}
use Rattle.ti_eval.proofs.numbers.long_bits.Goals as goal

pub returns-in-And : goal.returns-in-And
returns-in-And c = rw c.in-And.is (and_is w64 c.args.left c.args.right c.ranges.left c.ranges.right)

pub returns-in-Or : goal.returns-in-Or
returns-in-Or c = rw c.in-Or.is (or_is w64 c.args.left c.args.right c.ranges.left c.ranges.right)

pub returns-in-Xor : goal.returns-in-Xor
returns-in-Xor c = rw c.in-Xor.is (xor_is w64 c.args.left c.args.right c.ranges.left c.ranges.right)
