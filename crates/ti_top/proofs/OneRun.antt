-- The complete run in which each entry is that of the lowest-numbered process that can take one is one alone.
use Rattle.std.proofs.Common.{◌≡◌, ◌⊎◌, inl, inr, ℕ, ◌<◌, nat_lt, Bool, true, false, List, [], ◌∷◌, ◌++◌, refl, sym, ◌∙◌, ap, subst, arith, ltb-true, ltb-false, append-nil, append_assoc}
use Rattle.ti_base.specs.declared.entry.Entry.{Entry}
use Rattle.ti_lang.specs.Meaning.Processes.{RunConfig}
use Rattle.ti_lang.specs.Meaning.Runs.{CanTake, IsSolo, IsComplete}
use Rattle.ti_lang.specs.Meaning.Runs as r
use Rattle.ti_lang.proofs.Lemmas.{entry_same}

-- ---- lists

same_head : (x y : Entry) (xs ys : List Entry) → x ∷ xs ≡ y ∷ ys → x ≡ y
same_head x y xs ys e = cc

same_tail : (x y : Entry) (xs ys : List Entry) → x ∷ xs ≡ y ∷ ys → xs ≡ ys
same_tail x y xs ys e = cc

both_same : (x y : Entry) (xs ys : List Entry) → x ≡ y → xs ≡ ys → x ∷ xs ≡ y ∷ ys
both_same x y xs ys e f = cc

none_more : (xs : List Entry) (x : Entry) (ys : List Entry) → [] ≡ xs ++ x ∷ ys → ⊥
none_more [] x ys e = cc
none_more (z ∷ xs) x ys e = cc

-- an entry of a list that has one more at its end is the last, or one of those before
pub split : (bs : List Entry) (b : Entry) (xs : List Entry) (d : Entry) (ys : List Entry) → bs ++ b ∷ [] ≡ xs ++ d ∷ ys
    → ((bs ≡ xs) × (b ≡ d)) ⊎ ((zs : List Entry) × (bs ≡ xs ++ d ∷ zs))
split [] b [] d ys e = inl (refl, same_head b d [] ys e)
split [] b (x ∷ xs) d ys e = absurd (none_more xs d ys (same_tail b x [] _ e))
split (c ∷ bs) b [] d ys e = inr (bs, both_same c d bs bs (same_head c d _ ys e) refl)
split (c ∷ bs) b (x ∷ xs) d ys e = by (split bs b xs d ys (same_tail c x _ _ e))
  where
    by : ((bs ≡ xs) × (b ≡ d)) ⊎ ((zs : List Entry) × (bs ≡ xs ++ d ∷ zs)) → ((c ∷ bs ≡ x ∷ xs) × (b ≡ d)) ⊎ ((zs : List Entry) × (c ∷ bs ≡ x ∷ xs ++ d ∷ zs))
    by (inl k) = inl (both_same c x bs xs (same_head c x _ _ e) k.0, k.1)
    by (inr k) = inr (k.0, both_same c x bs _ (same_head c x _ _ e) k.1)

-- ---- the next entry

-- the entry is that of the lowest-numbered process that can take one
record Comes (s : RunConfig) (es : List Entry) (e : Entry) : Type 0 where
  taker : ℕ
  take : CanTake s es taker e
  least : (j : ℕ) (d : Entry) → j < taker → CanTake s es j d → ⊥

one_comes : (s : RunConfig) (es : List Entry) (d e : Entry) → Comes s es d → Comes s es e → d ≡ e
one_comes s es d e x y = by (nat_lt x.taker y.taker) refl (nat_lt y.taker x.taker) refl
  where
    by : (t : Bool) → nat_lt x.taker y.taker ≡ t → (u : Bool) → nat_lt y.taker x.taker ≡ u → d ≡ e
    by true a u b = absurd (y.least x.taker d (ltb-true x.taker y.taker a) x.take)
    by false a true b = absurd (x.least y.taker e (ltb-true y.taker x.taker b) y.take)
    by false a false b =
        let same : y.taker ≡ x.taker = omega (arith, ltb-false x.taker y.taker a, ltb-false y.taker x.taker b) in
        entry_same s es x.taker d e x.take (subst (λ i. CanTake s es i e) same y.take)

-- each entry of the run comes so behind those before it
comes : (s : RunConfig) (es all : List Entry) (d : Entry) (rest : List Entry) → IsSolo s all → all ≡ es ++ d ∷ rest → Comes s es d
comes s es all d rest r.none e = absurd (none_more es d rest e)
comes s es all d rest (r.more {es = before} {i = i} {e = last} run take least z) e = by (λ zs k. comes s es before d zs run k) (split before last es d rest (sym z ∙ e))
  where
    by : ((zs : List Entry) → before ≡ es ++ d ∷ zs → Comes s es d) → ((before ≡ es) × (last ≡ d)) ⊎ ((zs : List Entry) × (before ≡ es ++ d ∷ zs)) → Comes s es d
    by earlier (inl k) = subst (λ x. Comes s es x) k.1 (subst (λ xs. Comes s xs last) k.0 (record { taker = i; take = take; least = least }))
    by earlier (inr k) = earlier k.0 k.1

-- ---- complete runs

true_false : (b : Bool) → b ≡ true → b ≡ false → ⊥
true_false b x y = cc

-- behind a complete run no entry comes
over : (s : RunConfig) (es : List Entry) (e : Entry) → IsComplete s es → Comes s es e → ⊥
over s es e (inl fault) x = true_false _ fault x.take.goes_on
over s es e (inr ended) x = true_false _ (ended x.taker x.take.within) x.take.unended

-- two complete runs with one front go on alike behind it
goes_alike : (s : RunConfig) (front xs ys es ds : List Entry) → IsSolo s es → es ≡ front ++ xs → IsComplete s es → IsSolo s ds → ds ≡ front ++ ys → IsComplete s ds → xs ≡ ys
goes_alike s front [] [] es ds run a end ran b ended = refl
goes_alike s front [] (y ∷ ys) es ds run a end ran b ended =
    absurd (over s front y (subst (IsComplete s) (a ∙ append-nil front) end) (comes s front ds y ys ran b))
goes_alike s front (x ∷ xs) [] es ds run a end ran b ended =
    absurd (over s front x (subst (IsComplete s) (b ∙ append-nil front) ended) (comes s front es x xs run a))
goes_alike s front (x ∷ xs) (y ∷ ys) es ds run a end ran b ended =
    let same : x ≡ y = one_comes s front x y (comes s front es x xs run a) (comes s front ds y ys ran b) in
    let c : es ≡ (front ++ x ∷ []) ++ xs = a ∙ sym (append_assoc front (x ∷ []) xs) in
    let d : ds ≡ (front ++ x ∷ []) ++ ys = b ∙ ap (λ z. front ++ z ∷ ys) (sym same) ∙ sym (append_assoc front (x ∷ []) ys) in
    both_same x y xs ys same (goes_alike s (front ++ x ∷ []) xs ys es ds run c end ran d ended)

pub one_run : (s : RunConfig) (es ds : List Entry) → IsSolo s es → IsComplete s es → IsSolo s ds → IsComplete s ds → es ≡ ds
one_run s es ds run end ran ended = goes_alike s [] es ds es ds run refl end ran refl ended
