-- Proves that the code decides whether a range is canonical.
use Rattle.std.proofs.Common.{◌≡◌, ℕ, ◌+◌, ◌*◌, ◌/◌, ◌%◌, ◌<◌, ◌==◌, pos, ◌+ℤ◌, Decides, sym, ap, ◌∙◌, arith}
use Rattle.std.proofs.Math.Nat.{div-add-mod'}
use Rattle.std.proofs.lemmas.Bool.Decides.{Decides-like, Decides-eqb}
use Rattle.std.proofs.lemmas.Int.{ints}
use Rattle.std.proofs.lemmas.Nat.{mod-mul-add}
use Rattle.ti_base.specs.Ranges.{Range, IsRange}

-- whole steps lead from the low end to the high end, of which there are some
whole : (r : Range) (span : ℕ) → r.high ≡ r.low +ℤ pos span → 0 < r.step → (span ≡ 0 → ⊥) → span % r.step ≡ 0 → IsRange r
whole r span at positive some h =
    let split = div-add-mod' span r.step in
    let same : span / r.step * r.step ≡ span = omega arith in
    record {
      steps = span / r.step;
      reached = at ∙ ap (λ n. r.low +ℤ pos n) (sym same);
      forward = positive;
      single = λ e. absurd (some (sym same ∙ ap (λ n. n * r.step) e ∙ omega arith));
    }

back : (r : Range) (span : ℕ) → r.high ≡ r.low +ℤ pos span → 0 < r.step → IsRange r → span % r.step ≡ 0
back r span at positive is =
    let same : span ≡ is.steps * r.step + 0 = omega (arith, ints, is.reached) in
    ap (λ n. n % r.step) same ∙ mod-mul-add is.steps r.step 0 positive

-- where the ends differ
pub spans : (r : Range) (span d : ℕ) → r.high ≡ r.low +ℤ pos span → d ≡ r.step → 0 < r.step → (span ≡ 0 → ⊥) → Decides (span % d == 0) (IsRange r)
spans r span d at e positive some =
    let same : span % d ≡ span % r.step = ap (λ n. span % n) e in
    Decides-like (span % d == 0) (λ h. whole r span at positive some (sym same ∙ h)) (λ is. same ∙ back r span at positive is) (Decides-eqb (span % d) 0)
