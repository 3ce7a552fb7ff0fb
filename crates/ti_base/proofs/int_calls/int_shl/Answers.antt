use Rattle.std.proofs.Common.{refl, lit<}
use Rattle.std.specs.Int.{w32}
use Rattle.ti_base.proofs.WholeLaws.{low_bits, shifts_left}
use Rattle.ti_base.proofs.int_calls.int_shl.Goals as goal

pub returns : goal.returns
returns c =
    shifts_left w32 c.args.left c.args.right c.wrapping_shl.result _ c.ranges.left
    (low_bits w32 c.args.right c.cast_unsigned.result 32 134217728 (lit< tt) refl c.ranges.right c.cast_unsigned.ensures) c.wrapping_shl.ensures
