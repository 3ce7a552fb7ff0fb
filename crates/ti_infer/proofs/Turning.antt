-- A list whose elements are changed one after the other is the map of the change.
use Rattle.std.proofs.Common.{◌≡◌, ℕ, suc, ◌<◌, List, [], ◌∷◌, length, map, get_or, refl, ap, ◌∙◌, arith}

-- each element is seen as what it was, changed
pub turned : {A B : Type 0} (seen : A → B) (change : B → B) (old new : List A) → length new ≡ length old
    → ((k : ℕ) (d : A) → k < length old → seen (get_or new k d) ≡ change (seen (get_or old k d))) → map seen new ≡ map change (map seen old)
turned seen change [] [] len done = refl
turned seen change (y ∷ ys) [] len done = absurd (by len)
  where
    by : 0 ≡ suc (length ys) → ⊥
    by e = cc
turned seen change [] (x ∷ xs) len done = absurd (by len)
  where
    by : suc (length xs) ≡ 0 → ⊥
    by e = cc
turned seen change (y ∷ ys) (x ∷ xs) len done =
    ap (λ z. z ∷ map seen xs) (done 0 x (omega arith))
    ∙ ap (λ l. change (seen y) ∷ l) (turned seen change ys xs (omega (arith, len)) (λ k d lt. done (suc k) d (omega (arith, lt))))
