use Rattle.std.proofs.Common.{◌≡◌, ◌⊎◌, inl, inr, ℕ, ◌<◌, [], ◌∷◌, pos, nat_abs, refl, ap, arith}
use Rattle.std.proofs.lemmas.Int.{ints}
use Rattle.ti_base.specs.declared.point.Point.{Point}
use Rattle.ti_base.specs.Points.{pt_lex_lt}
use Rattle.ti_base.specs.PointSets.{Rises}
use Rattle.ti_base.proofs.Lemmas.{goes_on}
use Rattle.ti_rows.specs.Refuted.Sets.{on_line, rising_points}
use Rattle.ti_rows.proofs.refutations_of_values.lists.Goals as goal

-- equal points of a line have one coordinate
one_coordinate : (a b : ℕ) → on_line (pos a) ≡ on_line (pos b) → a ≡ b
one_coordinate a b e = ap (λ (p : Point). nat_abs p.x1) e

-- a point isn't among these
first_not_middle : (on_line (pos 0) ≡ on_line (pos 1)) ⊎ ⊥ → ⊥
first_not_middle (inl e) = let k : 0 ≡ 1 = one_coordinate 0 1 e in omega (arith, k)
first_not_middle (inr n) = n

middle_not_else : (on_line (pos 1) ≡ on_line (pos 0)) ⊎ ((on_line (pos 1) ≡ on_line (pos 2)) ⊎ ⊥) → ⊥
middle_not_else (inl e) = let k : 1 ≡ 0 = one_coordinate 1 0 e in omega (arith, k)
middle_not_else (inr (inl e)) = let k : 1 ≡ 2 = one_coordinate 1 2 e in omega (arith, k)
middle_not_else (inr (inr n)) = n

-- a greater point isn't first
not_first : (a b : ℕ) → b < a → (on_line (pos a) ≡ on_line (pos b)) ⊎ pt_lex_lt (on_line (pos a)) (on_line (pos b)) → ⊥
not_first a b l (inl e) = let k : a ≡ b = one_coordinate a b e in omega (arith, k, l)
not_first a b l (inr (inl k)) = omega (arith, ints, k, l)
not_first a b l (inr (inr k)) = let n : a ≡ b = ap nat_abs k.0 in omega (arith, n, l)

pub returns-clause-all_for_both : goal.returns-clause-all_for_both
returns-clause-all_for_both c = λ f. first_not_middle (((f.has (on_line (pos 0))).0 (inl refl)).1)

pub returns-clause-both_for_the_first_alone : goal.returns-clause-both_for_the_first_alone
returns-clause-both_for_the_first_alone c = λ f. ((f.has (on_line (pos 1))).0 (inl refl)).1 (inl refl)

pub returns-clause-the_first_alone_for_either : goal.returns-clause-the_first_alone_for_either
returns-clause-the_first_alone_for_either c = λ f. middle_not_else ((f.has (on_line (pos 1))).1 (inr (inl refl)))

pub returns-clause-the_second_is_first : goal.returns-clause-the_second_is_first
returns-clause-the_second_is_first c = λ f. not_first 1 0 (omega arith) (f.first (on_line (pos 0)) (inl refl) tt)

rising_rises : Rises rising_points
rising_rises = grind (arith, ints)

pub returns-clause-the_second_is_next_to_the_first : goal.returns-clause-the_second_is_next_to_the_first
returns-clause-the_second_is_next_to_the_first c = goes_on [] (on_line (pos 0)) (on_line (pos 1)) (on_line (pos 2) ∷ []) rising_rises

pub returns-clause-the_third_is_next_to_the_first : goal.returns-clause-the_third_is_next_to_the_first
returns-clause-the_third_is_next_to_the_first c = λ f. not_first 2 1 (omega arith) (f.first (on_line (pos 1)) (inr (inl refl)) (inl (omega arith)))

pub returns-clause-none_behind_the_second : goal.returns-clause-none_behind_the_second
returns-clause-none_behind_the_second c = λ f. f (on_line (pos 2)) (inr (inr (inl refl))) (inl (omega arith))
