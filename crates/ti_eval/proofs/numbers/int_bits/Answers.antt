use Rattle.std.specs.Int.{w32}
use Rattle.ti_eval.proofs.Bits.{and_is, or_is, xor_is}
use Rattle.ti_eval.proofs.numbers.int_bits.Goals as goal

pub returns-in-And : goal.returns-in-And
returns-in-And c = rw c.in-And.is (and_is w32 c.args.left c.args.right c.ranges.left c.ranges.right)

pub returns-in-Or : goal.returns-in-Or
returns-in-Or c = rw c.in-Or.is (or_is w32 c.args.left c.args.right c.ranges.left c.ranges.right)

pub returns-in-Xor : goal.returns-in-Xor
returns-in-Xor c = rw c.in-Xor.is (xor_is w32 c.args.left c.args.right c.ranges.left c.ranges.right)
