-- The number of steps along a range and along a subrange of it.
use Rattle.std.proofs.Common.{◌≡◌, ⊎_elim, ℕ, ◌+◌, ◌-◌, ◌*◌, ◌/◌, ◌<◌, ℤ, pos, ◌+ℤ◌, ◌-ℤ◌, ◌≤ℤ◌, ◌<ℤ◌, sym, ap, ◌∙◌, arith}
use Rattle.std.proofs.Math.Nat.{mul-div_cancel}
use Rattle.std.proofs.lemmas.Nat.{mul-le}
use Rattle.std.proofs.lemmas.Bool.{cases_lt}
use Rattle.std.proofs.lemmas.Int.{ints}
use Rattle.ti_base.specs.Ranges.{Range, IsOn, IsRange, natural, shift_range}
use Rattle.ti_rect.proofs.Lemmas.{low_on}
use Rattle.ti_grid.specs.Mirrors.Numbers.{steps_to}

-- the steps to a number that is so many above the low end
pub steps_are : (r : Range) (x : ℤ) (k : ℕ) → 0 < r.step → x ≡ r.low +ℤ pos (k * r.step) → steps_to r x ≡ k
steps_are r x k positive e =
    let d : x -ℤ r.low ≡ pos (k * r.step) = omega (arith, ints) in
    ap (λ (z : ℤ). natural z / r.step) d ∙ mul-div_cancel k positive

pub on_steps : (r : Range) (x : ℤ) → 0 < r.step → (o : IsOn r x) → steps_to r x ≡ o.steps
on_steps r x positive o = steps_are r x o.steps positive o.reached

-- a range and a number that are moved by the same
pub moved_steps : (r : Range) (by x : ℤ) → steps_to (shift_range by r) x ≡ steps_to r (x -ℤ by)
moved_steps r by x =
    let d : x -ℤ (r.low +ℤ by) ≡ (x -ℤ by) -ℤ r.low = omega (arith, ints) in
    ap (λ (z : ℤ). natural z / r.step) d

-- ---- a part of a range

-- what lies between two multiples is a multiple
between : (m n d e : ℕ) → 0 < e → n * d ≡ m * d + e → (q : ℕ) × (e ≡ q * d)
between m n d e positive at = ⊎_elim
    (λ less. let h = mul-le n d m d (omega arith) (omega arith) in absurd (omega arith))
    (λ more.
    let split : n ≡ m + (n - m) = omega arith in
    let both : n * d ≡ (m + (n - m)) * d = ap (λ (k : ℕ). k * d) split in
    (n - m, omega arith))
    (cases_lt n m)

module _ (a part : Range) (whole : IsRange a) (is : IsRange part) (inside : (x : ℤ) → IsOn part x → IsOn a x) where
  some_steps : part.low <ℤ part.high → 0 < is.steps
  some_steps less = ⊎_elim (λ h. h)
      (λ none.
      let zero_steps : is.steps ≡ 0 = omega arith in
      let f : is.steps * part.step ≡ 0 * part.step = ap (λ (k : ℕ). k * part.step) zero_steps in
      absurd (omega (arith, ints, is.reached)))
      (cases_lt 0 is.steps)

  second_on : part.low <ℤ part.high → IsOn part (part.low +ℤ pos part.step)
  second_on less =
      let h = mul-le 1 part.step is.steps part.step (some_steps less) (omega arith) in
      record { steps = 1; reached = omega (arith, ints); within = omega (arith, ints, is.reached) }

  -- a step of the part is so many steps of the range
  ratio : part.low <ℤ part.high → (q : ℕ) × (part.step ≡ q * a.step)
  ratio less =
      let o = inside part.low (low_on part is) in
      let n = inside (part.low +ℤ pos part.step) (second_on less) in
      between o.steps n.steps a.step part.step is.forward (omega (arith, ints, o.reached, n.reached))

  pub stretched_steps : part.low <ℤ part.high → (x : ℤ) → IsOn part x → steps_to a x ≡ steps_to a part.low + steps_to part x * (part.step / a.step)
  stretched_steps less x o =
      let q = ratio less in
      let at = inside part.low (low_on part is) in
      let f : o.steps * part.step ≡ o.steps * (q.0 * a.step) = ap (λ (k : ℕ). o.steps * k) q.1 in
      let e : x ≡ a.low +ℤ pos ((at.steps + o.steps * q.0) * a.step) = omega (arith, ints, o.reached, at.reached) in
      let quotient : part.step / a.step ≡ q.0 = ap (λ (k : ℕ). k / a.step) q.1 ∙ mul-div_cancel q.0 whole.forward in
      steps_are a x (at.steps + o.steps * q.0) whole.forward e
      ∙ sym (λ i. on_steps a part.low whole.forward at i + on_steps part x is.forward o i * quotient i)

  pub stretched_number : (s : ℕ) → part.low <ℤ part.high → (x : ℤ) → IsOn part x
      → steps_to a x * s ≡ steps_to a part.low * s + steps_to part x * (part.step / a.step * s)
  stretched_number s less x o =
      let e = stretched_steps less x o in
      let f : steps_to a x * s ≡ (steps_to a part.low + steps_to part x * (part.step / a.step)) * s = ap (λ (k : ℕ). k * s) e in
      omega arith

  pub stretched_below : (s m : ℕ) → part.low <ℤ part.high → ((x : ℤ) → IsOn part x → steps_to a x * s < m) → part.step / a.step * s < m
  unfolding second_on
  stretched_below s m less h =
      let x = part.low +ℤ pos part.step in
      let o = second_on less in
      let one : steps_to part x ≡ 1 = on_steps part x is.forward o in
      let e = stretched_number s less x o in
      let f : steps_to part x * (part.step / a.step * s) ≡ 1 * (part.step / a.step * s) = ap (λ (k : ℕ). k * (part.step / a.step * s)) one in
      let b = h x o in
      omega arith

  pub single_number : (s : ℕ) → part.high ≤ℤ part.low → (x : ℤ) → IsOn part x → steps_to a x * s ≡ steps_to a part.low * s + steps_to part x * 0
  single_number s none x o =
      let e : x ≡ part.low = omega (arith, ints, o.reached, o.within) in
      ap (λ (z : ℤ). steps_to a z * s) e ∙ omega arith
