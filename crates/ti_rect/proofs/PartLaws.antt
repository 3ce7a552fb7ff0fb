-- Gaps and residues are disjoint and have exactly the numbers of one range that aren't on the other.
use Rattle.std.proofs.Common.{◌≡◌, ◌⊎◌, inl, inr, ⊎_elim, ◌↔◌, ℕ, zero, suc, ◌+◌, ◌*◌, ◌/◌, ◌%◌, ◌<◌, ◌≤◌, ℤ, pos, ◌+ℤ◌, ◌≤ℤ◌, ◌<ℤ◌, true, false, if◌then◌else◌, List, [], ◌∷◌, ◌++◌, refl, sym, ap, subst, ◌∙◌, arith}
use Rattle.std.proofs.Math.Nat.{div-add-mod', mod-lt, mul-div_cancel}
use Rattle.std.proofs.lemmas.Nat.{mod-mul-add}
use Rattle.std.proofs.lemmas.Bool.{cases_lt}
use Rattle.std.proofs.lemmas.Int.{ints, by_lt_z}
use Rattle.ti_base.specs.Ranges.{Range, IsOn, IsRange, IsTidy, IsNextOn, is_empty_range}
use Rattle.ti_rect.specs.declared.axis.Axis.{Axis}
use Rattle.ti_rect.specs.Axes.{range}
use Rattle.ti_rect.proofs.RectLaws.{none_on, low_on, high_on}
use Rattle.ti_rect.proofs.MeetLaws.{steps_between, steps_on}
use Rattle.ti_rect.specs.Parts.{IsOff, IsBetween, residue_of, IsOffBelow, IsOffResidues, IsPart, IsOnPart, AreParts, with_part}
use Rattle.ti_rect.proofs.FamilyLaws.{covers_none, covers_one, covers_append, covers_same}

-- ---- the numbers of a range between two others

-- of a range from a number of it on, up to the greatest end that is below a bound
pub stretched : (r s : Range) (low to : ℤ) → 0 < r.step → IsOn r low → s.low ≡ low → s.step ≡ r.step → s.high ≤ℤ r.high → s.high <ℤ to
    → ((z : ℤ) → z ≤ℤ r.high → z <ℤ to → z ≤ℤ s.high) → (x : ℤ) → IsOn s x ↔ (IsOn r x × (low ≤ℤ x) × (x <ℤ to))
stretched r s low to positive on at same top below reached x = (
  λ o.
      let m : o.steps * s.step ≡ o.steps * r.step = ap (λ n. o.steps * n) same in
      let e : x ≡ low +ℤ pos (o.steps * r.step) = let f = o.reached in omega (arith, ints) in
      let w = o.within in
      (steps_on r low x o.steps on e (omega (arith, ints)), omega (arith, ints), omega (arith, ints)),
  λ h.
      let b = steps_between r low x positive on h.0 h.1 in
      let m : b.0 * s.step ≡ b.0 * r.step = ap (λ n. b.0 * n) same in
      record { steps = b.0; reached = let e = b.1 in omega (arith, ints); within = reached x h.0.within h.2 },
)

pub none_below : (r : Range) (low to : ℤ) → to ≤ℤ low → (x : ℤ) → (IsOn r x × (low ≤ℤ x) × (x <ℤ to)) → ⊥
none_below r low to h x o = omega (arith, ints, o.1, o.2)

-- from the first number above one on is above that one
pub from_next : (r : Range) (from low x : ℤ) → IsNextOn r from low → (IsOn r x × (low ≤ℤ x)) ↔ (IsOn r x × (from <ℤ x))
from_next r from low x n = (λ h. (h.0, let a = n.above in let b = h.1 in omega (arith, ints)), λ h. (h.0, n.first x h.0 h.1))

-- ---- one more range

empty_true : (a : Range) → a.high <ℤ a.low → is_empty_range a ≡ true
empty_true a h = grind (arith, ints)

full_false : (a : Range) → a.low ≤ℤ a.high → is_empty_range a ≡ false
full_false a h = grind (arith, ints)

-- n is the quotient of n steps
pub steps_over : (m n s : ℕ) → 0 < s → m ≡ n * s → m / s ≡ n
steps_over m n s positive e = ap (λ k. k / s) e ∙ mul-div_cancel n positive

same_steps : (m n s : ℕ) → 0 < s → m * s ≡ n * s → m ≡ n
same_steps m n s positive e = sym (mul-div_cancel m positive) ∙ steps_over (m * s) n s positive e

step_ratio : (m n s : ℕ) → 0 < s → m ≡ n * s → m ≡ m / s * s
step_ratio m n s positive e = e ∙ ap (λ k. k * s) (sym (steps_over m n s positive e))

same_residue : (q i p j k : ℕ) → i < k → j < k → q * k + i ≡ p * k + j → i ≡ j
same_residue q i p j k less less' e = sym (mod-mul-add q k i less) ∙ ap (λ n. n % k) e ∙ mod-mul-add p k j less'

pub parts_more : (parts : List Axis) (a : Axis) (P Q R : ℤ → Type 0) → AreParts parts P → IsTidy (range a) → ((x : ℤ) → IsOn (range a) x ↔ Q x)
    → ((x : ℤ) → P x → Q x → ⊥) → ((x : ℤ) → (P x ⊎ Q x) ↔ R x) → AreParts (with_part parts a) R
parts_more parts a P Q R c form same away all = by form
  where
    by : IsTidy (range a) → AreParts (with_part parts a) R
    by (inl empty) =
        let e : with_part parts a ≡ parts = ap (λ t. if t then parts else parts ++ a ∷ []) (empty_true (range a) empty) in
        subst (λ l. AreParts l R) (sym e)
        (covers_same IsPart IsOnPart parts P R c
        (λ x. (λ p. (all x).0 (inl p), λ r. ⊎_elim (λ p. p) (λ q. absurd (none_on (range a) x empty ((same x).1 q))) ((all x).1 r))))
    by (inr full) =
        let le : a.low ≤ℤ a.high = let f = full.reached in omega (arith, ints) in
        let t = full_false (range a) le in
        let e : with_part parts a ≡ parts ++ a ∷ [] = ap (λ t. if t then parts else parts ++ a ∷ []) t in
        subst (λ l. AreParts l R) (sym e)
        (covers_append IsPart IsOnPart parts (a ∷ []) P Q R c (covers_one IsPart IsOnPart a Q full same) away all)

no_parts : AreParts [] (λ x. ⊥)
no_parts = covers_none IsPart IsOnPart (λ x. ⊥) (λ x h. h)

-- ---- gaps

module _ (a c : Range) (whole : IsRange a) (part : IsRange c) (inside : (x : ℤ) → IsOn c x → IsOn a x) where
  ends : (a.low ≤ℤ c.low) × (c.high ≤ℤ a.high)
  ends =
      let l = inside c.low (low_on c part) in
      let h = inside c.high (high_on c part) in
      (let e = l.reached in omega (arith, ints), h.within)

  on_steps : (t : ℕ) → (c.low +ℤ pos (t * c.step)) ≤ℤ c.high → IsOn c (c.low +ℤ pos (t * c.step))
  on_steps t h = record { steps = t; reached = refl; within = h }

  low_end : (x : ℤ) → IsOn c x → c.low ≤ℤ x
  low_end x o = let e = o.reached in omega (arith, ints)

  -- before the first number
  pub gaps_begin : (v : List Axis) (g : Axis) → v ≡ with_part [] g → IsTidy (range g) → ((x : ℤ) → IsOn (range g) x ↔ (IsOn a x × (x <ℤ c.low)))
      → AreParts v (IsOffBelow a c (c.low +ℤ pos (0 * c.step)))
  gaps_begin v g e form same = subst (λ l. AreParts l (IsOffBelow a c (c.low +ℤ pos (0 * c.step)))) (sym e)
      (parts_more [] g (λ x. ⊥) (λ x. IsOn a x × (x <ℤ c.low)) (IsOffBelow a c (c.low +ℤ pos (0 * c.step))) no_parts form same (λ x h q. h)
      (λ x. (
        ⊎_elim (λ h. absurd h) (λ q. ((q.0, λ o. let l = low_end x o in let k = q.1 in omega (arith, ints)), let k = q.1 in omega (arith, ints))),
        λ h. inr (h.0.0, (let k = h.1 in omega (arith, ints))),
      )))

  -- between a number and the next
  pub gaps_more : (parts v : List Axis) (g : Axis) (t : ℕ) → (c.low +ℤ pos ((t + 1) * c.step)) ≤ℤ c.high → AreParts parts (IsOffBelow a c (c.low +ℤ pos (t * c.step)))
      → v ≡ with_part parts g → IsTidy (range g) → ((x : ℤ) → IsOn (range g) x ↔ IsBetween a (c.low +ℤ pos (t * c.step)) (c.low +ℤ pos ((t + 1) * c.step)) x)
      → AreParts v (IsOffBelow a c (c.low +ℤ pos ((t + 1) * c.step)))
  gaps_more parts v g t room so_far e form same =
      let u = c.low +ℤ pos (t * c.step) in
      let w = c.low +ℤ pos ((t + 1) * c.step) in
      let on : IsOn c u = on_steps t (omega (arith, ints)) in
      subst (λ l. AreParts l (IsOffBelow a c w)) (sym e)
      (parts_more parts g (IsOffBelow a c u) (IsBetween a u w) (IsOffBelow a c w) so_far form same
      (λ x p q. let l = p.1 in let m = q.1 in omega (arith, ints))
      (λ x. (
        ⊎_elim (λ p. (p.0, let l = p.1 in omega (arith, ints)))
            (λ q. (
              (
                q.0,
                λ o. none_between x (u) (steps_between c u x part.forward on o (let m = q.1 in omega (arith, ints))) q.1 (let m = q.2 in omega (arith, ints)),
              ),
              q.2,
            )),
        λ h. by_lt_z x u (λ less. inl (h.0, less))
            (λ ge. by_lt_z u x (λ more. inr (h.0.0, more, h.1))
            (λ le. let same : u ≡ x = omega (arith, ints) in absurd (h.0.1 (subst (IsOn c) same on)))),
      )))
    where
      none_between : (x u : ℤ) → (k : ℕ) × (x ≡ u +ℤ pos (k * c.step)) → u <ℤ x → x <ℤ (u +ℤ pos c.step) → ⊥
      none_between x u k more less = by k.0 k.1
        where
          by : (n : ℕ) → x ≡ u +ℤ pos (n * c.step) → ⊥
          by zero e = omega (arith, ints)
          by (suc n) e = omega (arith, ints)

  -- behind the last number
  pub gaps_end : (parts v : List Axis) (g : Axis) (t : ℕ) → c.high ≡ c.low +ℤ pos (t * c.step)
      → AreParts parts (IsOffBelow a c (c.low +ℤ pos (t * c.step))) → v ≡ with_part parts g → IsTidy (range g) → ((x : ℤ) → IsOn (range g) x ↔ (IsOn a x × (c.high <ℤ x)))
      → AreParts v (IsOff a c)
  gaps_end parts v g t at so_far e form same =
      let on = high_on c part in
      subst (λ l. AreParts l (IsOff a c)) (sym e)
      (parts_more parts g (IsOffBelow a c (c.low +ℤ pos (t * c.step))) (λ x. IsOn a x × (c.high <ℤ x)) (IsOff a c) so_far form same
      (λ x p q. let l = p.1 in let m = q.1 in omega (arith, ints))
      (λ x. (
        ⊎_elim (λ p. p.0) (λ q. (q.0, λ o. let w = o.within in let m = q.1 in omega (arith, ints))),
        λ h. by_lt_z x c.high (λ less. inl (h, omega (arith, ints)))
            (λ ge. by_lt_z c.high x (λ more. inr (h.0, more))
            (λ le. let same : c.high ≡ x = omega (arith, ints) in absurd (h.1 (subst (IsOn c) same on)))),
      )))

  -- ---- residues

  pub sides : (v w : List Axis) (g h : Axis) → v ≡ with_part [] g → IsTidy (range g) → ((x : ℤ) → IsOn (range g) x ↔ (IsOn a x × (x <ℤ c.low)))
      → w ≡ with_part v h → IsTidy (range h) → ((x : ℤ) → IsOn (range h) x ↔ (IsOn a x × (c.high <ℤ x))) → AreParts w (IsOffResidues a c 1)
  sides v w g h e form same f form' same' =
      let P : ℤ → Type 0 = λ x. IsOn a x × (x <ℤ c.low) in
      let Q : ℤ → Type 0 = λ x. IsOn a x × (c.high <ℤ x) in
      let first : AreParts v P = subst (λ l. AreParts l P) (sym e)
      (parts_more [] g (λ x. ⊥) P P no_parts form same (λ x n q. n) (λ x. (⊎_elim (λ n. absurd n) (λ q. q), inr))) in
      let rise : c.low ≤ℤ c.high = let r = part.reached in omega (arith, ints) in
      subst (λ l. AreParts l (IsOffResidues a c 1)) (sym f)
      (parts_more v h P Q (IsOffResidues a c 1) first form' same'
      (λ x p q. let l = p.1 in let m = q.1 in omega (arith, ints))
      (λ x. (
        ⊎_elim inl (λ q. inr (inl q)),
        ⊎_elim inl (⊎_elim inr (λ i. absurd (let k = i.1 in let l = i.2 in omega arith))),
      )))

  module _ (k : ℕ) (ratio : c.step ≡ k * a.step) where
    -- a number of residue i is so many steps above the first
    count_of : (i : ℕ) (x : ℤ) → (o : IsOn (residue_of a c i) x) → x ≡ c.low +ℤ pos ((o.steps * k + i) * a.step)
    count_of i x o =
        let m : o.steps * c.step ≡ o.steps * (k * a.step) = ap (λ n. o.steps * n) ratio in
        let e = o.reached in
        omega (arith, ints)

    one_residue : (i j : ℕ) (x : ℤ) → i < k → j < k → IsOn (residue_of a c i) x → IsOn (residue_of a c j) x → i ≡ j
    one_residue i j x less less' o p =
        let e = count_of i x o in
        let f = count_of j x p in
        let m : (o.steps * k + i) * a.step ≡ (p.steps * k + j) * a.step = omega (arith, ints) in
        same_residue o.steps i p.steps j k less less' (same_steps (o.steps * k + i) (p.steps * k + j) a.step whole.forward m)

    own : (x : ℤ) → IsOn c x → IsOn (residue_of a c 0) x
    own x o = record { steps = o.steps; reached = let e = o.reached in omega (arith, ints); within = o.within }

    own_back : (i : ℕ) (x : ℤ) → i ≡ 0 → IsOn (residue_of a c i) x → IsOn c x
    own_back i x e o =
        let m : i * a.step ≡ 0 * a.step = ap (λ n. n * a.step) e in
        record { steps = o.steps; reached = let f = o.reached in omega (arith, ints); within = o.within }

    residue_inside : (i : ℕ) (x : ℤ) → IsOn (residue_of a c i) x → IsOn a x
    residue_inside i x o =
        let w = o.within in
        let t = ends.1 in
        steps_on a c.low x (o.steps * k + i) (inside c.low (low_on c part)) (count_of i x o) (omega (arith, ints))

    -- each number of the first range between the ends of the second has its residue
    residue_at : (x : ℤ) → 0 < k → IsOn a x → c.low ≤ℤ x → x ≤ℤ c.high → (i : ℕ) × (i < k) × IsOn (residue_of a c i) x
    residue_at x positive o low high =
        let b = steps_between a c.low x whole.forward (inside c.low (low_on c part)) o low in
        let i = b.0 % k in
        let q = b.0 / k in
        let split : q * k + i ≡ b.0 = div-add-mod' b.0 k in
        let m : (q * k + i) * a.step ≡ b.0 * a.step = ap (λ n. n * a.step) split in
        let n : q * c.step ≡ q * (k * a.step) = ap (λ n. q * n) ratio in
        (i, mod-lt b.0 positive, record { steps = q; reached = let e = b.1 in omega (arith, ints); within = high })

    pub residues_more : (parts v : List Axis) (g : Axis) (j : ℕ) → 1 ≤ j → j < k → AreParts parts (IsOffResidues a c j) → v ≡ with_part parts g → IsRange (range g)
        → ((x : ℤ) → IsOn (range g) x ↔ IsOn (residue_of a c j) x) → AreParts v (IsOffResidues a c (j + 1))
    residues_more parts v g j some less so_far e form same = subst (λ l. AreParts l (IsOffResidues a c (j + 1))) (sym e)
        (parts_more parts g (IsOffResidues a c j) (IsOn (residue_of a c j)) (IsOffResidues a c (j + 1)) so_far (inr form) same
        (λ x p q. ⊎_elim
        (λ h. let r = q.reached in let l = h.1 in omega (arith, ints))
        (⊎_elim (λ h. let w = q.within in let l = h.1 in omega (arith, ints))
        (λ h. let l = h.2 in let o = one_residue h.0 j x (omega arith) less h.3 q in omega arith)) p)
        (λ x. (
          ⊎_elim (⊎_elim inl (⊎_elim (λ h. inr (inl h)) (λ h. inr (inr (h.0, h.1, (let l = h.2 in omega arith), h.3)))))
              (λ q. inr (inr (j, some, omega arith, q))),
          ⊎_elim (λ h. inl (inl h)) (⊎_elim (λ h. inl (inr (inl h)))
              (λ h. ⊎_elim (λ l. inl (inr (inr (h.0, h.1, l, h.3))))
              (λ ge. let s : h.0 ≡ j = let l = h.2 in omega arith in inr (subst (λ i. IsOn (residue_of a c i) x) s h.3)) (cases_lt h.0 j))),
        )))

    pub residues_end : (v : List Axis) → 0 < k → AreParts v (IsOffResidues a c k) → AreParts v (IsOff a c)
    residues_end v positive so_far = covers_same IsPart IsOnPart v (IsOffResidues a c k) (IsOff a c) so_far
        (λ x. (
          ⊎_elim (λ h. (h.0, λ o. let l = low_end x o in let m = h.1 in omega (arith, ints)))
              (⊎_elim (λ h. (h.0, λ o. let w = o.within in let m = h.1 in omega (arith, ints)))
              (λ h. (residue_inside h.0 x h.3, λ o. let l = h.1 in let s = one_residue h.0 0 x h.2 positive h.3 (own x o) in omega arith))),
          λ h. by_lt_z x c.low (λ less. inl (h.0, less))
              (λ ge. by_lt_z c.high x (λ more. inr (inl (h.0, more)))
              (λ le.
              let r = residue_at x positive h.0 ge le in
              ⊎_elim (λ z. absurd (h.1 (own_back r.0 x (omega arith) r.2))) (λ some. inr (inr (r.0, some, r.1, r.2))) (cases_lt r.0 1))),
        ))

  -- ---- the stride of the second range is a multiple of that of the first

  pub ratio_is : (c.low +ℤ pos c.step) ≤ℤ c.high → c.step ≡ c.step / a.step * a.step
  ratio_is room =
      let o = inside c.low (low_on c part) in
      let p = inside (c.low +ℤ pos c.step) (record { steps = 1; reached = omega (arith, ints); within = room }) in
      let b = steps_between a c.low (c.low +ℤ pos c.step) whole.forward o p (omega (arith, ints)) in
      let m : c.step ≡ b.0 * a.step = let e = b.1 in omega (arith, ints) in
      step_ratio c.step b.0 a.step whole.forward m
