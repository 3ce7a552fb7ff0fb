-- What contracts see of operands and operators in the code.
use Rattle.std.specs.Prelude.{◌≡◌, ℕ, ℤ, int_lt, int_le, Bool, not, ◌&&◌, ◌||◌, bit_and, bit_or, bit_xor, List, Some}
use Rattle.std.specs.Int.{Width, w32, w64}
use Rattle.ti_base.specs.declared.point.Point.{Point}
use Rattle.ti_base.specs.Points.{IsPoint}
use Rattle.ti_base.specs.Rects.{IsRect}
use Rattle.ti_base.specs.PointSets.{meet, minus, union}
use Rattle.ti_base.specs.WholeNumbers.{shift_left, shift_right, shift_right_unsigned}
use Rattle.ti_lang.specs.Typing.Kinds.{same_truth}
use Rattle.ti_lang.specs.Meaning.Held.{Held}
use Rattle.ti_lang.specs.Meaning.Operands as seen
use Rattle.ti_lang.specs.Meaning.Operands.{held_dim}
use Rattle.ti_eval.specs.declared.pairs.Operands.{Operands}
use Rattle.ti_eval.specs.declared.pairs.Operands.TheVariants as o
use Rattle.ti_eval.specs.declared.kinds.SetOp.{SetOp}
use Rattle.ti_eval.specs.declared.kinds.SetOp.TheVariants as b
use Rattle.ti_eval.specs.declared.kinds.CmpOp.{CmpOp}
use Rattle.ti_eval.specs.declared.kinds.CmpOp.TheVariants as t
use Rattle.ti_eval.specs.declared.kinds.BitOp.{BitOp}
use Rattle.ti_eval.specs.declared.kinds.BitOp.TheVariants as i
use Rattle.ti_eval.specs.declared.kinds.ShiftOp.{ShiftOp}
use Rattle.ti_eval.specs.declared.kinds.ShiftOp.TheVariants as h

abbrev pub operands_of : Operands → seen.Operands
operands_of (o.Ints a b) = seen.Wholes w32 a b
operands_of (o.Longs a b) = seen.Wholes w64 a b
operands_of (o.Bools a b) = seen.Truths a b
operands_of (o.Points p q) = seen.Points p q
operands_of (o.Rects r s) = seen.Rects r s
operands_of o.Domains = seen.Domains
operands_of (o.Things a b) = seen.Things a b
operands_of (o.Regions a b) = seen.Regions a b
operands_of o.Others = seen.Others

-- Points and rectangular domains are canonical and of one dimension.
abbrev pub AreFormedOperands : Operands → Type 0
AreFormedOperands (o.Points p q) = IsPoint p × IsPoint q × (q.dim ≡ p.dim)
AreFormedOperands (o.Rects r s) = IsRect r × IsRect s × (s.dim ≡ r.dim)
AreFormedOperands x = Unit {0}

-- Both are domains of one dimension, rectangular or not.
abbrev pub HaveOneDim : Held → Held → Type 0
HaveOneDim x y = (n : ℕ) × (held_dim x ≡ Some n) × (held_dim y ≡ Some n)

-- If the operands are domains, they are of one dimension.
abbrev pub AreDomains : Operands → Held → Held → Type 0
AreDomains (o.Rects r s) x y = HaveOneDim x y
AreDomains o.Domains x y = HaveOneDim x y
AreDomains _ x y = Unit {0}

-- ---- operators

abbrev pub set_of : SetOp → List Point → List Point → List Point
set_of b.Union = union
set_of b.Difference = minus
set_of b.Intersection = meet

abbrev pub test_of : CmpOp → ℤ → ℤ → Bool
test_of t.Less x y = int_lt x y
test_of t.LessEqual x y = int_le x y
test_of t.Greater x y = int_lt y x
test_of t.GreaterEqual x y = int_le y x

abbrev pub bits_by : BitOp → ℕ → ℕ → ℕ
bits_by i.And x y = bit_and x y
bits_by i.Or x y = bit_or x y
bits_by i.Xor x y = bit_xor x y

abbrev pub bools_by : BitOp → Bool → Bool → Bool
bools_by i.And x y = x && y
bools_by i.Or x y = x || y
bools_by i.Xor x y = not (same_truth x y)

abbrev pub shift_by : ShiftOp → Width → ℤ → ℤ → ℤ
shift_by h.Left w x y = shift_left w x y
shift_by h.Right w x y = shift_right w x y
shift_by h.Unsigned w x y = shift_right_unsigned w x y
