use Rattle.std.proofs.Common.{refl, ◌∙◌, lit<}
use Rattle.std.proofs.Math.Nat.{mod-eq_of_lt, mod-lt}
use Rattle.std.specs.Int.{w64}
use Rattle.ti_base.proofs.WholeLaws.{low_bits, shifts_left}
use Rattle.ti_base.proofs.long_calls.long_shl.Goals as goal

pub returns : goal.returns
returns c =
    shifts_left w64 c.args.left c.args.right c.wrapping_shl.result _ c.ranges.left
    (mod-eq_of_lt (mod-lt c.cast_unsigned.result (lit< tt)) ∙ low_bits w64 c.args.right c.cast_unsigned.result 64 288230376151711744
    (lit< tt) refl c.ranges.right c.cast_unsigned.ensures) c.wrapping_shl.ensures
