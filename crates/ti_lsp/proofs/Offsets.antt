-- Offsets of positions.
use Rattle.std.proofs.Common.{◌≡◌, ℕ, List, [], ◌∷◌, refl, sym, subst}
use Rattle.ti_lsp.specs.Positions.{lines_len}

-- no line has no bytes
pub no_lines : (n : ℕ) (bytes : List ℕ) → n ≡ 0 → lines_len n bytes ≡ 0
no_lines n bytes none = subst (λ (k : ℕ). lines_len k bytes ≡ 0) (sym none) (zero_lines bytes)
  where
    zero_lines : (l : List ℕ) → lines_len 0 l ≡ 0
    zero_lines [] = refl
    zero_lines (b ∷ bs) = refl
