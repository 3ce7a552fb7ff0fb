-- Proves what bitwise operators and shifts do to integers.
use Rattle.std.proofs.Common.{◌≡◌, ◌∙◌, refl, sym, ap, ℕ, ◌+◌, ◌*◌, ◌^◌, ◌<◌, ℤ, pos, negsuc, ◌+ℤ◌, ◌*ℤ◌, bit_and, bit_or, bit_xor, FitsSigned, to_z, of_z, arith, lit<}
use Rattle.std.proofs.Math.Nat.{mod-eq_of_lt}
use Rattle.std.proofs.lemmas.Int.{ints, to_z-of_z}
use Rattle.std.proofs.lemmas.Nat.{or_lt, xor_lt}
use Rattle.std.specs.Int.Bits.{and_lt}
use Rattle.std.specs.Int.{Width, w8, w16, w32, w64, w128, int_wrap}
use mir.Val.{bits, hbits}
use Rattle.ti_base.specs.WholeNumbers.{modulo, wrap, IsWrapped, IsRoundedDown, shift_count, rounded_down}
use Rattle.ti_base.proofs.Lemmas.{bits_modulo, read_back, wraps_some, rounds}
use Rattle.ti_lang.specs.Meaning.Operands.{on_bits}

wrap_bits : (w : Width) (n : ℕ) → n < 2 ^ bits w → int_wrap w (pos n) ≡ to_z w n
unfolding int_wrap
wrap_bits w n h = ap (to_z w) (mod-eq_of_lt h)

one_time : (w : Width) → 2 ^ bits w ≡ 1 * 2 ^ bits w
one_time w8 = refl
one_time w16 = refl
one_time w32 = refl
one_time w64 = refl
one_time w128 = refl

positive : (w : Width) → 0 < 2 ^ bits w
positive w8 = lit< tt
positive w16 = lit< tt
positive w32 = lit< tt
positive w64 = lit< tt
positive w128 = lit< tt

-- the bits of a number of that width
bits_are : (w : Width) (a : ℤ) → FitsSigned w a → of_z w a < 2 ^ bits w → of_z w a ≡ modulo a (2 ^ bits w)
bits_are w a f l = sym (mod-eq_of_lt l) ∙ bits_modulo w a (2 ^ bits w) 1 (positive w) (one_time w) f

pub on_bits_is : (f : ℕ → ℕ → ℕ) (w : Width) (a b : ℤ) → ((x y : ℕ) → x < 2 ^ bits w → y < 2 ^ bits w → f x y < 2 ^ bits w) → FitsSigned w a → FitsSigned w b
    → of_z w a < 2 ^ bits w → of_z w b < 2 ^ bits w → to_z w (f (of_z w a) (of_z w b)) ≡ on_bits f w a b
on_bits_is f w a b keeps g h k l =
    sym (wrap_bits w (f (of_z w a) (of_z w b)) (keeps _ _ k l)) ∙ rw (bits_are w a g k, bits_are w b h l) refl

-- ---- counts of shifts

one_rest : (b r t q p : ℤ) (m n : ℕ) → b ≡ r +ℤ t *ℤ pos (2 ^ 32) → r ≡ q *ℤ pos 32 +ℤ pos m → m < 32 → b ≡ p *ℤ pos 32 +ℤ pos n → n < 32 → m ≡ n
one_rest b r t q p m n e f h g k = omega (arith, ints)

pub narrow_count : (b : ℤ) → shift_count w32 (wrap w32 b) ≡ shift_count w32 b
narrow_count b =
    let w : IsWrapped w32 b (wrap w32 b) = wraps_some w32 b in
    let x : IsRoundedDown (wrap w32 b) 32 (rounded_down (wrap w32 b) 32) (modulo (wrap w32 b) 32) = rounds (wrap w32 b) 32 (lit< tt) in
    let y : IsRoundedDown b 32 (rounded_down b 32) (modulo b 32) = rounds b 32 (lit< tt) in
    one_rest b (wrap w32 b) w.turns (rounded_down (wrap w32 b) 32) (rounded_down b 32) (modulo (wrap w32 b) 32) (modulo b 32) w.apart x.whole x.below y.whole y.below

-- the count that is left of a long
pub count_of_int : (b r : ℤ) → FitsSigned w64 b → r ≡ wrap w32 (to_z w64 (of_z w64 b)) → shift_count w32 (to_z w32 (of_z w32 r)) ≡ shift_count w32 b
count_of_int b r f e = ap (shift_count w32) (read_back w32 r b (e ∙ ap (wrap w32) (to_z-of_z w64 b f))) ∙ narrow_count b

-- ---- the operators

doubles : (w : Width) → 2 ^ hbits w + 2 ^ hbits w ≡ 2 ^ bits w
doubles w8 = refl
doubles w16 = refl
doubles w32 = refl
doubles w64 = refl
doubles w128 = refl

below_bits : (w : Width) (a : ℤ) → FitsSigned w a → of_z w a < 2 ^ bits w
below_bits w (pos n) f = omega (arith, doubles w, f.sfits)
below_bits w (negsuc n) f = omega (arith, positive w)

pub and_is : (w : Width) (a b : ℤ) → FitsSigned w a → FitsSigned w b → to_z w (bit_and (of_z w a) (of_z w b)) ≡ on_bits bit_and w a b
and_is w a b f g = on_bits_is bit_and w a b (λ x y. and_lt (bits w) x y) f g (below_bits w a f) (below_bits w b g)

pub or_is : (w : Width) (a b : ℤ) → FitsSigned w a → FitsSigned w b → to_z w (bit_or (of_z w a) (of_z w b)) ≡ on_bits bit_or w a b
or_is w a b f g = on_bits_is bit_or w a b (λ x y. or_lt (bits w) x y) f g (below_bits w a f) (below_bits w b g)

pub xor_is : (w : Width) (a b : ℤ) → FitsSigned w a → FitsSigned w b → to_z w (bit_xor (of_z w a) (of_z w b)) ≡ on_bits bit_xor w a b
xor_is w a b f g = on_bits_is bit_xor w a b (λ x y. xor_lt (bits w) x y) f g (below_bits w a f) (below_bits w b g)
