-- Integers as the code handles them: read back from their bits, widened and compared.
use Rattle.std.proofs.Common.{◌≡◌, ◌↔◌, ℕ, ◌*◌, ◌^◌, Bool, ℤ, pos, ◌+ℤ◌, ◌≤ℤ◌, ◌<ℤ◌, true, false, FitsSigned, to_z, of_z, sym, ap, ◌∙◌, subst, arith}
use Rattle.std.proofs.lemmas.Int.{ints, to_z-of_z}
use Rattle.std.specs.Int.{w32, w64}
use Rattle.std.specs.Int.Signed.{lt_z, le_z}

-- ---- order

pub through : (a b c : ℤ) → a ≤ℤ b → b ≤ℤ c → a ≤ℤ c
through a b c h k = omega (arith, ints)

pub below : (a b c : ℤ) → a ≤ℤ b → b <ℤ c → a <ℤ c
below a b c h k = omega (arith, ints)

pub passed : (x y : ℤ) → x ≤ℤ y → y <ℤ x → ⊥
passed x y h k = omega (arith, ints)

pub at_most : (a b : ℤ) → a <ℤ b → a ≤ℤ b
at_most a b h = omega (arith, ints)

pub from_less : (a b : ℤ) → lt_z a b ≡ true → a <ℤ b
from_less a b e = grind (arith, ints)

pub to_less : (a b : ℤ) → a <ℤ b → lt_z a b ≡ true
to_less a b h = grind (arith, ints)

pub from_not_less : (a b : ℤ) → lt_z a b ≡ false → b ≤ℤ a
from_not_less a b e = grind (arith, ints)

pub from_most : (a b : ℤ) → le_z a b ≡ true → a ≤ℤ b
from_most a b e = grind (arith, ints)

pub from_not_most : (a b : ℤ) → le_z a b ≡ false → b <ℤ a
from_not_most a b e = grind (arith, ints)

-- ---- two ints

module _ (a b : ℤ) (f : FitsSigned w32 a) (g : FitsSigned w32 b) where
  same : lt_z (to_z w32 (of_z w32 a)) (to_z w32 (of_z w32 b)) ≡ lt_z a b
  same i = lt_z (to_z-of_z w32 a f i) (to_z-of_z w32 b g i)

  pub is_less : lt_z (to_z w32 (of_z w32 a)) (to_z w32 (of_z w32 b)) ≡ true → a <ℤ b
  is_less e = from_less a b (sym same ∙ e)

  pub not_less : lt_z (to_z w32 (of_z w32 a)) (to_z w32 (of_z w32 b)) ≡ false → b ≤ℤ a
  not_less e = from_not_less a b (sym same ∙ e)

  pub less_iff : (lt_z (to_z w32 (of_z w32 a)) (to_z w32 (of_z w32 b)) ≡ true) ↔ (a <ℤ b)
  less_iff = (is_less, λ h. same ∙ to_less a b h)

pub back_order : (a b : ℤ) → FitsSigned w32 a → FitsSigned w32 b → a ≤ℤ b → to_z w32 (of_z w32 a) ≤ℤ to_z w32 (of_z w32 b)
back_order a b f g h = subst (λ x. x ≤ℤ to_z w32 (of_z w32 b)) (sym (to_z-of_z w32 a f)) (subst (λ y. a ≤ℤ y) (sym (to_z-of_z w32 b g)) h)

-- a test has not both answers
pub never : true ≡ false → ⊥
never e = cc

pub clash : (t : Bool) → t ≡ true → t ≡ false → ⊥
clash true e f = let c : true ≡ false = f in cc
clash false e f = let c : false ≡ true = e in cc

-- ---- an int that was widened

pub widened : (x wide : ℤ) → FitsSigned w32 x → wide ≡ to_z w32 (of_z w32 x) → to_z w64 (of_z w64 wide) ≡ x
widened x wide f e = omega (arith, ints)

pub wide_order : (low x wide : ℤ) → FitsSigned w32 low → FitsSigned w32 x → low ≤ℤ x → wide ≡ to_z w32 (of_z w32 x)
    → to_z w32 (of_z w32 low) ≤ℤ to_z w64 (of_z w64 wide)
wide_order low x wide f g h e = subst (λ y. y ≤ℤ to_z w64 (of_z w64 wide)) (sym (to_z-of_z w32 low f)) (subst (λ y. low ≤ℤ y) (sym (widened x wide g e)) h)

int_bound : (x : ℤ) → FitsSigned w32 x → x <ℤ pos (2 ^ 31)
int_bound x f = omega (arith, ints)

pub wide_bound : (x wide : ℤ) → FitsSigned w32 x → wide ≡ to_z w32 (of_z w32 x) → to_z w64 (of_z w64 wide) <ℤ pos (2 ^ 31)
wide_bound x wide f e = subst (λ y. y <ℤ pos (2 ^ 31)) (sym (widened x wide f e)) (int_bound x f)

-- how far it is above another
pub span_of : (low x wide : ℤ) (span : ℕ) → FitsSigned w32 low → FitsSigned w32 x → wide ≡ to_z w32 (of_z w32 x)
    → to_z w64 (of_z w64 wide) ≡ to_z w32 (of_z w32 low) +ℤ pos span → x ≡ low +ℤ pos span
span_of low x wide span f g e at = sym (widened x wide g e) ∙ at ∙ ap (λ z. z +ℤ pos span) (to_z-of_z w32 low f)

-- ---- an int that lies so far above another, reckoned as a long

between_fits : (low x top : ℤ) (n : ℕ) → FitsSigned w32 low → FitsSigned w32 top → x ≡ low +ℤ pos n → x ≤ℤ top → FitsSigned w32 x
between_fits low x top n f g e h = omega (arith, ints)

sum_is : (low top wide : ℤ) (n : ℕ) → FitsSigned w32 low → FitsSigned w32 top → (low +ℤ pos n) ≤ℤ top → wide ≡ to_z w32 (of_z w32 low)
    → to_z w64 (of_z w64 (to_z w64 (of_z w64 wide) +ℤ to_z w64 n)) ≡ low +ℤ pos n
sum_is low top wide n f g h e = omega (arith, ints)

module _ (low top wide : ℤ) (steps step factor : ℕ) (f : FitsSigned w32 low) (g : FitsSigned w32 top) (h : (low +ℤ pos (steps * step)) ≤ℤ top)
    (e : wide ≡ to_z w32 (of_z w32 low)) (same : factor ≡ step) where
  at : to_z w64 (of_z w64 (to_z w64 (of_z w64 wide) +ℤ to_z w64 (steps * factor))) ≡ low +ℤ pos (steps * step)
  at = ap (λ k. to_z w64 (of_z w64 (to_z w64 (of_z w64 wide) +ℤ to_z w64 (steps * k)))) same ∙ sum_is low top wide (steps * step) f g h e

  fits : FitsSigned w32 (low +ℤ pos (steps * step))
  fits = between_fits low (low +ℤ pos (steps * step)) top (steps * step) f g (λ _. low +ℤ pos (steps * step)) h

  pub sum_fits : FitsSigned w32 (to_z w64 (of_z w64 (to_z w64 (of_z w64 wide) +ℤ to_z w64 (steps * factor))))
  sum_fits = subst (FitsSigned w32) (sym at) fits

  pub sum_back : to_z w32 (of_z w32 (to_z w64 (of_z w64 (to_z w64 (of_z w64 wide) +ℤ to_z w64 (steps * factor))))) ≡ low +ℤ pos (steps * step)
  sum_back = ap (λ z. to_z w32 (of_z w32 z)) at ∙ to_z-of_z w32 (low +ℤ pos (steps * step)) fits
