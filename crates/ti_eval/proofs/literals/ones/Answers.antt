use Rattle.std.proofs.Common.{◌≡◌, ◌∙◌, ap, refl, ℕ, ◌-◌, ℤ, pos, List, [], ◌∷◌, ◌++◌, map, take, length, replicate, arith}
use Rattle.ti_eval.proofs.literals.ones.Goals as goal

repeated : (xs : List ℤ) → replicate (length xs) (pos 1) ≡ map (λ x. pos 1) xs
repeated [] = refl
repeated (x ∷ xs) = ap (λ (ys : List ℤ). pos 1 ∷ ys) (repeated xs)

nothing_of : (n : ℕ) → take {A = ℤ} n [] ≡ []
nothing_of n = search arith

filled : (xs ys : List ℤ) (k : ℕ) → ys ≡ [] → k ≡ 0 → take (length xs) ys ++ replicate (length xs - k) (pos 1) ≡ map (λ x. pos 1) xs
filled xs ys k e f =
    let all : length xs - k ≡ length xs = omega arith in
    rw (e, all, nothing_of (length xs)) (repeated xs)

pub returns : goal.returns
returns c = c.in_ok-resize.ensures.items ∙ filled c.args.numbers.now _ _ c.new-found.ensures.items c.new-found.ensures.len
