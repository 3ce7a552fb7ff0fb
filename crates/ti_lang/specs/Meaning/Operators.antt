-- The value of an operator, from the values of its operands.
use Rattle.std.specs.Prelude.{ℕ, ℤ, pos, ◌-ℤ◌, neg_ℤ, int_lt, int_le, Bool, true, false, not, ◌&&◌, ◌||◌, ◌==◌, if◌then◌else◌, bit_and, bit_or, bit_xor, Option, Some, None}
use Rattle.std.specs.Int.{Width, w32, w64}
use Rattle.ti_base.specs.declared.place.Place.{Place}
use Rattle.ti_base.specs.declared.value.Value.TheVariants as v
use Rattle.ti_base.specs.declared.fault.FaultKind.TheVariants.{DivZero}
use Rattle.ti_base.specs.WholeNumbers.{wrap, sum, difference, product, negation, quotient, remainder, shift_left, shift_right, shift_right_unsigned}
use Rattle.ti_base.specs.Points.{pt_sum, pt_difference}
use Rattle.ti_base.specs.PointSets.{same_number, same_point, meet, minus, union}
use Rattle.ti_base.specs.Rects.{points_of}
use Rattle.ti_base.specs.Rects as rect
use Rattle.ti_syntax.specs.declared.tree.exprs.UnaryOperator.{UnaryOperator}
use Rattle.ti_syntax.specs.declared.tree.exprs.UnaryOperator.TheVariants as un
use Rattle.ti_syntax.specs.declared.tree.exprs.BinaryOperator.{BinaryOperator}
use Rattle.ti_syntax.specs.declared.tree.exprs.BinaryOperator.TheVariants as op
use Rattle.ti_lang.specs.Typing.Kinds.{same_truth}
use Rattle.ti_lang.specs.Meaning.Held.{Held, Plain, no_value, truth, truth_of, whole_of, points_in}
use Rattle.ti_lang.specs.Meaning.Comp.{Comp, ◌>>=◌, gives, guard}
use Rattle.ti_lang.specs.Meaning.Conversions.{to_domain, of_domains}
use Rattle.ti_lang.specs.Meaning.Operands.{Operands, Wholes, Truths, Points, Rects, Domains, Things, Regions, Others, operands, number, on_bits, same_thing, same_points, in_each}

-- ---- sums, products and quotients

-- `x + y`: a sum of numbers or points, or a union of domains
abbrev pub add_values : Place → Held → Held → Operands → Comp Held
add_values at x y (Wholes w a b) = gives (number w (sum w a b))
add_values at x y (Points p q) = gives (Plain (v.Pt (pt_sum p q)))
add_values at x y (Rects r s) = of_domains union at x y
add_values at x y Domains = of_domains union at x y
add_values at x y _ = gives no_value

-- `x - y`: a difference of numbers, of points or of domains as sets
abbrev pub subtract_values : Place → Held → Held → Operands → Comp Held
subtract_values at x y (Wholes w a b) = gives (number w (difference w a b))
subtract_values at x y (Points p q) = gives (Plain (v.Pt (pt_difference p q)))
subtract_values at x y (Rects r s) = of_domains minus at x y
subtract_values at x y Domains = of_domains minus at x y
subtract_values at x y _ = gives no_value

-- `x * y`: a product of numbers, or an intersection of domains; that of rectangular domains is rectangular
abbrev pub multiply_values : Place → Held → Held → Operands → Comp Held
multiply_values at x y (Wholes w a b) = gives (number w (product w a b))
multiply_values at x y (Rects r s) = gives (Plain (v.Rc (rect.meet r s)))
multiply_values at x y Domains = of_domains meet at x y
multiply_values at x y _ = gives no_value

-- `x / y` or `x % y`; a zero divisor is a fault
abbrev pub divide_values : (Width → ℤ → ℤ → ℤ) → Place → Operands → Comp Held
divide_values result at (Wholes w a b) = guard (not (same_number b (pos 0))) DivZero at (number w (result w a b))
divide_values result at _ = gives (truth false)

-- ---- bits

-- a bitwise operator on integers, or its counterpart on booleans
abbrev pub bitwise_values : (ℕ → ℕ → ℕ) → (Bool → Bool → Bool) → Operands → Held
bitwise_values f g (Wholes w a b) = number w (on_bits f w a b)
bitwise_values f g (Truths a b) = truth (g a b)
bitwise_values f g _ = truth false

-- a shift; the result has the type of the left operand
abbrev pub shift_value : (Width → ℤ → ℤ → ℤ) → Held → Held → Held
shift_value f (Plain (v.Long a)) y = number w64 (f w64 a (whole_of y))
shift_value f x y = number w32 (f w32 (whole_of x) (whole_of y))

-- ---- comparisons

-- a comparison of numbers, or of points: it holds if it holds in every coordinate
abbrev pub compare_values : (ℤ → ℤ → Bool) → Operands → Held
compare_values test (Wholes w a b) = truth (test a b)
compare_values test (Points p q) = truth (in_each test p q)
compare_values test _ = truth false

-- whether two operands are equal; domains are equal if they have the same points
abbrev pub equal : Place → Held → Held → Operands → Comp Bool
equal at x y (Wholes w a b) = gives (same_number a b)
equal at x y (Truths a b) = gives (same_truth a b)
equal at x y (Points p q) = gives (same_point p q)
equal at x y (Rects r s) = gives (same_points (points_of r) (points_of s))
equal at x y Domains = do
  d ← to_domain at x
  e ← to_domain at y
  gives (same_points (points_in d) (points_in e))
equal at x y (Things a b) = gives (same_thing a b)
equal at x y (Regions a b) = gives (a == b)
equal at x y Others = gives false

-- ---- all operators

-- a binary operator on both operands; once the right operand of `&&` or `||` is evaluated, its value is the result
abbrev pub apply_binary : Place → BinaryOperator → Held → Held → Comp Held
apply_binary at op.OrElse x y = gives y
apply_binary at op.AndThen x y = gives y
apply_binary at op.Or x y = gives (bitwise_values bit_or (λ a b. a || b) (operands x y))
apply_binary at op.Xor x y = gives (bitwise_values bit_xor (λ a b. not (same_truth a b)) (operands x y))
apply_binary at op.And x y = gives (bitwise_values bit_and (λ a b. a && b) (operands x y))
apply_binary at op.Equal x y = equal at x y (operands x y) >>= λ b. gives (truth b)
apply_binary at op.NotEqual x y = equal at x y (operands x y) >>= λ b. gives (truth (not b))
apply_binary at op.Less x y = gives (compare_values int_lt (operands x y))
apply_binary at op.LessEqual x y = gives (compare_values int_le (operands x y))
apply_binary at op.Greater x y = gives (compare_values (λ a b. int_lt b a) (operands x y))
apply_binary at op.GreaterEqual x y = gives (compare_values (λ a b. int_le b a) (operands x y))
apply_binary at op.ShiftLeft x y = gives (shift_value shift_left x y)
apply_binary at op.ShiftRight x y = gives (shift_value shift_right x y)
apply_binary at op.UnsignedShiftRight x y = gives (shift_value shift_right_unsigned x y)
apply_binary at op.Add x y = add_values at x y (operands x y)
apply_binary at op.Subtract x y = subtract_values at x y (operands x y)
apply_binary at op.Multiply x y = multiply_values at x y (operands x y)
apply_binary at op.Divide x y = divide_values (λ w a b. wrap w (quotient a b)) at (operands x y)
apply_binary at op.Remainder x y = divide_values (λ w a b. remainder a b) at (operands x y)

-- the result of a short-circuit operator if the left operand decides it; otherwise None
abbrev pub short_circuit : BinaryOperator → Held → Option Held
short_circuit op.OrElse x = if truth_of x then Some (truth true) else None
short_circuit op.AndThen x = if truth_of x then None else Some (truth false)
short_circuit o x = None

-- a unary operator on an integer, in the operand's width
abbrev pub apply_signed : (Width → ℤ → ℤ) → Held → Held
apply_signed f (Plain (v.Long n)) = number w64 (f w64 n)
apply_signed f h = number w32 (f w32 (whole_of h))

-- a unary operator
abbrev pub operated_alone : UnaryOperator → Held → Held
operated_alone un.Minus h = apply_signed negation h
operated_alone un.Plus h = h
operated_alone un.Not h = truth (not (truth_of h))
operated_alone un.Complement h = apply_signed (λ w n. neg_ℤ n -ℤ pos 1) h
