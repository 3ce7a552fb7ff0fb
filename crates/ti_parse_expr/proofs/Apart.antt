-- Two ways to split one list are proved to be related: one part is a prefix of the other.
use Rattle.std.proofs.Common.{◌≡◌, ◌⊎◌, inl, inr, List, [], ◌∷◌, ◌++◌, refl, sym, ap, ◌∙◌}
use Rattle.ti_syntax.specs.declared.token.Token.{Token}

abbrev pub Apart : (a b c : List Token) (t : Token) (d : List Token) → Type 0
Apart a b c t d =
    ((u : Token) × (v : List Token) × (b ≡ u ∷ (v ++ t ∷ d)) × (c ≡ a ++ u ∷ v))
    ⊎ (((a ≡ c) × (b ≡ t ∷ d)) ⊎ ((v : List Token) × (a ≡ c ++ t ∷ v)))

also : (x y : Token) (a b c : List Token) (t : Token) (d : List Token) → x ≡ y → Apart a b c t d → Apart (x ∷ a) b (y ∷ c) t d
also x y a b c t d same (inl (u, v, is, more)) = inl (u, v, is, ap (λ z. z ∷ c) (sym same) ∙ ap (λ z. x ∷ z) more)
also x y a b c t d same (inr (inl (is, rest))) = inr (inl (ap (λ z. z ∷ a) same ∙ ap (λ z. y ∷ z) is, rest))
also x y a b c t d same (inr (inr (v, is))) = inr (inr (v, ap (λ z. z ∷ a) same ∙ ap (λ z. y ∷ z) is))

pub apart : (a b c : List Token) (t : Token) (d : List Token) → a ++ b ≡ c ++ t ∷ d → Apart a b c t d
apart [] b [] t d h = inr (inl (refl, h))
apart [] b (u ∷ c) t d h = inl (u, c, h, refl)
apart (x ∷ a) b [] t d h = let same : x ≡ t = cc in inr (inr (a, ap (λ z. z ∷ a) same))
apart (x ∷ a) b (y ∷ c) t d h =
    let same : x ≡ y = cc in
    let tails : a ++ b ≡ c ++ t ∷ d = cc in
    also x y a b c t d same (apart a b c t d tails)
