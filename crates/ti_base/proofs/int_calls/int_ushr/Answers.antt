use Rattle.std.proofs.Common.{refl, lit<}
use Rattle.std.specs.Int.{w32}
use Rattle.ti_base.proofs.WholeLaws.{low_bits, shifts_unsigned}
use Rattle.ti_base.proofs.int_calls.int_ushr.Goals as goal

pub returns : goal.returns
returns c =
    shifts_unsigned w32 c.args.left c.args.right c.cast_signed.result c.cast_unsigned-bits.result c.wrapping_shr.result _ c.ranges.left
    (low_bits w32 c.args.right c.cast_unsigned.result 32 134217728 (lit< tt) refl c.ranges.right c.cast_unsigned.ensures)
    c.cast_unsigned-bits.ensures c.wrapping_shr.ensures c.cast_signed.ensures
