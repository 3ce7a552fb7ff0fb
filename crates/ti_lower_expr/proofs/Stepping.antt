-- Proves that a range without a step is one with the step 1.
use Rattle.std.proofs.Common.{◌≡◌, ℕ, ℤ, pos, zero, suc, ◌≤◌, nat_le, if◌then◌else◌, true, [], ◌∷◌, map, take, refl, ap, ap₂, ◌∙◌, arith}
use Rattle.ti_base.specs.declared.value.Value.TheVariants as v
use Rattle.ti_lang.specs.Meaning.Held.{Held, Plain, Dm}
use Rattle.ti_lang.specs.Meaning.Literals as literal
use Rattle.ti_code.specs.Effects.{one_step}

not_less : (m n : ℕ) → m ≤ n → nat_le m n ≡ true
not_less m n l = grind (arith, l)

none_taken : (n : ℕ) → take {A = ℤ} n [] ≡ map (λ x. pos 1) (take {A = ℤ} n [])
none_taken zero = refl
none_taken (suc n) = refl

-- as many coordinates, all 1
ones_of : (dim : ℕ) (x y z : ℤ)
    → take dim (pos 1 ∷ (if nat_le 2 dim then pos 1 else pos 0) ∷ (if nat_le 3 dim then pos 1 else pos 0) ∷ []) ≡ map (λ n. pos 1) (take dim (x ∷ y ∷ z ∷ []))
ones_of zero x y z = refl
ones_of (suc zero) x y z = refl
ones_of (suc (suc zero)) x y z = refl
ones_of (suc (suc (suc n))) x y z =
    let second : nat_le 2 (suc (suc (suc n))) ≡ true = not_less 2 (suc (suc (suc n))) (omega arith) in
    let third : nat_le 3 (suc (suc (suc n))) ≡ true = not_less 3 (suc (suc (suc n))) (omega arith) in
    ap₂ (λ a b. take (suc (suc (suc n))) (pos 1 ∷ (if a then pos 1 else pos 0) ∷ (if b then pos 1 else pos 0) ∷ [])) second third
    ∙ ap (λ ns. pos 1 ∷ pos 1 ∷ pos 1 ∷ ns) (none_taken n)

step_is_one : (h : Held) → literal.numbers_in (one_step h) ≡ map (λ n. pos 1) (literal.numbers_in h)
step_is_one (Plain (v.Pt p)) = ones_of p.dim p.x1 p.x2 p.x3
step_is_one (Plain value) = refl
step_is_one (Dm dim points) = refl

pub plain_is_stepped : (low high : Held) → literal.stepped_bounds low high (one_step low) ≡ literal.plain_bounds low high
plain_is_stepped low high = ap (λ s. record { low = literal.numbers_in low; high = literal.numbers_in high; step = s }) (step_is_one low)
