-- Comma-separated lists of one, two or three elements are what the code writes.
use Rattle.std.proofs.Common.{◌≡◌, ◌≢◌, ℕ, zero, suc, List, [], ◌∷◌, ◌++◌, take, refl, append_assoc, arith}
use Rattle.std.proofs.lemmas.List.{take_all}
use Rattle.std.specs.Prelude.{codes}
use Rattle.ti_watch.specs.Texts.{comma_list}

pub one_listed : (line : List ℕ) (dim : ℕ) (a b c : List ℕ) → dim ≡ 1 → line ++ a ≡ line ++ comma_list (take dim (a ∷ b ∷ c ∷ []))
one_listed line dim a b c one = rw one refl

pub two_listed : (line : List ℕ) (dim : ℕ) (a b c : List ℕ) → dim ≡ 2 → line ++ a ++ codes "," ++ b ≡ line ++ comma_list (take dim (a ∷ b ∷ c ∷ []))
two_listed line dim a b c two = rw two (simp append_assoc)

pub three_listed : (line : List ℕ) (dim : ℕ) (a b c : List ℕ) → dim ≢ 0 → dim ≢ 1 → dim ≢ 2
    → line ++ a ++ codes "," ++ b ++ codes "," ++ c ≡ line ++ comma_list (take dim (a ∷ b ∷ c ∷ []))
three_listed line zero a b c none one two = absurd (none refl)
three_listed line (suc zero) a b c none one two = absurd (one refl)
three_listed line (suc (suc zero)) a b c none one two = absurd (two refl)
three_listed line (suc (suc (suc n))) a b c none one two =
    let nothing : take {A = List ℕ} n [] ≡ [] = take_all {A = List ℕ} n [] (omega arith) in
    rw nothing (simp append_assoc)
