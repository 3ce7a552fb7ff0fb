-- The numbers of a list that is its own log are those of its pairs.
use Rattle.std.proofs.Common.{◌≡◌, ℕ, zero, suc, ◌<◌, List, [], ◌∷◌, length, get_or, refl, arith}
use Rattle.ti_turnstile.specs.Passes.{number_at}

pub number_got : (es : List (ℕ × ℕ)) (i : ℕ) (d : ℕ × ℕ) → i < length es → (get_or es i d).0 ≡ number_at es i
number_got [] i d lt = absurd (omega arith)
number_got (e ∷ es) zero d lt = refl
number_got (e ∷ es) (suc i) d lt = number_got es i d (omega arith)
