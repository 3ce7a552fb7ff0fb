-- Passes that were issued are all returned.
use Rattle.std.proofs.Common.{◌≡◌, ℕ, suc, ◌+◌, List, [], ◌∷◌, ◌++◌, take, drop, length, length-append, get_or, ◌<◌, refl, subst, ap, ◌∙◌, arith}
use Rattle.std.proofs.lemmas.List.{get_or_append_left, get_or_push}
use Rattle.std.specs.List.{All}
use Rattle.std.proofs.lemmas.List.Elements.{All-append, All-cons, All-take, All-drop, All-same}
use Rattle.atomic_table.specs.Seated.{TableId}
use Rattle.atomic_table.proofs.Lists.{at_last, at_longer}
use Rattle.ti_turnstile.specs.declared.turnstile.Pass.{Pass}
use Rattle.ti_turnstile.specs.Turnstiles.{turnstile_of, number_of, seen_by, AreNew, AreOf}

module _ {V I : Type 0} {g : _} (turnstile : TableId) where
  -- the last of new passes, and those before it
  pub last_pass : (all xs : List (Pass V I g)) (p : Pass V I g) → all ≡ xs ++ p ∷ [] → AreNew turnstile all → (turnstile_of p ≡ turnstile)
      × (number_of p ≡ length xs) × (seen_by p ≡ []) × AreNew turnstile xs
  last_pass all xs p is new =
      let new' = subst (AreNew turnstile) is new in
      let last = new' (length xs) p (at_last xs p (length xs) refl) in
      (last.0, last.1, last.2, λ i q e. new' i q (at_longer xs (p ∷ []) i q e))

  -- one pass more
  pub one_back : (all ps : List (Pass V I g)) (p : Pass V I g) → all ≡ ps ++ p ∷ [] → AreOf turnstile ps → turnstile_of p ≡ turnstile → AreOf turnstile all
  one_back all ps p is of one = rw is (added ps p of one)
    where
      added : (ps : List (Pass V I g)) (p : Pass V I g) → AreOf turnstile ps → turnstile_of p ≡ turnstile → AreOf turnstile (ps ++ p ∷ [])
      added [] p h is = (is, tt)
      added (x ∷ xs) p h is = (h.0, added xs p h.1 is)

-- a list that has one more at its end
pub one_longer : {X : Type 0} (all xs : List X) (x : X) → all ≡ xs ++ x ∷ [] → length all ≡ length xs + 1
one_longer all xs x is = omega (arith, ap length is, length-append xs (x ∷ []))

module _ {X : Type 0} (P : X → Type 0) where
  -- one goes out of the list, and back to its place
  pub all_turned : (old rest all : List X) (i : ℕ) (x : X) → All P old → rest ≡ take i old ++ drop (suc i) old → P x → all ≡ take i rest ++ x ∷ drop i rest → All P all
  all_turned old rest all i x fit out one back =
      let left : All P rest = All-same P rest (take i old ++ drop (suc i) old) out (All-append P (take i old) (drop (suc i) old) (All-take P i old fit) (All-drop P (suc i) old fit)) in
      All-same P all (take i rest ++ x ∷ drop i rest) back
      (All-append P (take i rest) (x ∷ drop i rest) (All-take P i rest left) (All-cons P x (drop i rest) one (All-drop P i rest left)))

  -- one more
  pub all_pushed : (all xs : List X) (x : X) → all ≡ xs ++ x ∷ [] → All P xs → P x → All P all
  all_pushed all xs x is old one = All-same P all (xs ++ x ∷ []) is (All-append P xs (x ∷ []) old (All-cons P x [] one (λ k d l. absurd (omega (arith, l)))))

  -- the last one, and those before it
  pub all_before : (xs ys : List X) (x : X) → xs ≡ ys ++ x ∷ [] → All P xs → All P ys
  all_before xs ys x is all k d l = subst P (get_before xs ys x is k d l) (all k d (longer xs ys x is k l))
    where
      longer : (xs ys : List X) (x : X) → xs ≡ ys ++ x ∷ [] → (k : ℕ) → k < length ys → k < length xs
      longer xs ys x is k l = omega (arith, ap length is, length-append ys (x ∷ []), l)

      get_before : (xs ys : List X) (x : X) → xs ≡ ys ++ x ∷ [] → (k : ℕ) (d : X) → k < length ys → get_or xs k d ≡ get_or ys k d
      get_before xs ys x is k d l = ap (λ zs. get_or zs k d) is ∙ get_or_append_left ys (x ∷ []) d k l

  pub all_last : (xs ys : List X) (x : X) → xs ≡ ys ++ x ∷ [] → All P xs → P x
  all_last xs ys x is all = subst P (ap (λ zs. get_or zs (length ys) x) is ∙ get_or_push ys x x (length ys) refl) (all (length ys) x (inside xs ys x is))
    where
      inside : (xs ys : List X) (x : X) → xs ≡ ys ++ x ∷ [] → length ys < length xs
      inside xs ys x is = omega (arith, ap length is, length-append ys (x ∷ []))
