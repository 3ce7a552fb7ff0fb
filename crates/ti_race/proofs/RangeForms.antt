-- The test for canonical ranges accepts exactly these.
use Rattle.std.proofs.Common.{◌≡◌, ◌∙◌, ap, sym, ℕ, ◌+◌, ◌*◌, ◌/◌, ◌%◌, ◌<◌, ℤ, pos, ◌+ℤ◌, arith}
use Rattle.std.proofs.lemmas.Int.{ints}
use Rattle.std.proofs.Math.Nat.{mul-mod_left, div-add-mod, mul_comm, zero-mul}
use Rattle.ti_base.specs.Ranges.{Range, IsRange}

-- a number without remainder is a multiple
multiple : (span step : ℕ) → span % step ≡ 0 → span ≡ span / step * step
multiple span step divides =
    sym (div-add-mod span step) ∙ ap (λ n. step * (span / step) + n) divides ∙ omega arith ∙ mul_comm step (span / step)

-- the high end is so far above the low end
pub range_from : (r : Range) (span : ℕ) → 0 < r.step → (span ≡ 0 → ⊥) → r.high ≡ r.low +ℤ pos span → span % r.step ≡ 0 → IsRange r
range_from r span forward some reached divides = record {
  steps = span / r.step;
  reached = reached ∙ ap (λ n. r.low +ℤ pos n) (multiple span r.step divides);
  forward = forward;
  single = λ none. absurd (some (multiple span r.step divides ∙ ap (λ n. n * r.step) none ∙ zero-mul r.step));
}

same_span : (low : ℤ) (m n : ℕ) → low +ℤ pos m ≡ low +ℤ pos n → m ≡ n
same_span low m n e = omega (arith, ints, e)

pub range_divides : (r : Range) (span : ℕ) → r.high ≡ r.low +ℤ pos span → IsRange r → span % r.step ≡ 0
range_divides r span reached form =
    ap (λ n. n % r.step) (same_span r.low span (form.steps * r.step) (sym reached ∙ form.reached)) ∙ mul-mod_left form.steps r.step
