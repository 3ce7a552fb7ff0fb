-- Lemmas on logs that grow, and on lists of views of which one changes.
use Rattle.std.proofs.Common.{◌≡◌, ◌≢◌, ℕ, zero, suc, ◌+◌, ◌<◌, ◌≤◌, ◌==◌, ◌⊎◌, inl, inr, ⊎_elim, true, false, cond, List, [], ◌∷◌, ◌++◌, set, length, refl, sym, ap, ◌∙◌, subst, arith, append_assoc, ne_eqb}
use mathlib.Core.Option.{some, some-injective, some-ne-none}
use lib.ListN.{get_elem?}
use Rattle.std.proofs.lemmas.List.{append-nil}
use Rattle.ti_turnstile.specs.Passes.{items_of, StartsWith, AllNumbered, GrownBy, IsLegal}
use Rattle.ti_turnstile.specs.declared.seat_view.PassView.{PassView}
use Rattle.ti_turnstile.specs.declared.seat_view.SeatView.{SeatView}
use Rattle.ti_turnstile.specs.PassViews.{pass_view, AllPasses, AnyPass, HasSeen, HasNumber, Distinct}
use Rattle.ti_turnstile.specs.Mirrors.Views.{new_passes, SomeSeat, total}
use Rattle.atomic_table.proofs.Lists.{at_set, set_else, at_longer, at_last}
use native.Mathlib.Decide.{ℕ_discrete}

module _ {A : Type 0} where
  pub get_set : (l : List A) (i : ℕ) (a b : A) → get_elem? l i ≡ some a → get_elem? (set l i b) i ≡ some b
  get_set [] i a b e = absurd (some-ne-none a (sym e))
  get_set (x ∷ xs) zero a b e = refl
  get_set (x ∷ xs) (suc i) a b e = get_set xs i a b e

  pub at_end : (l : List A) (a b : A) (j : ℕ) → get_elem? (l ++ a ∷ []) j ≡ some b → (get_elem? l j ≡ some b) ⊎ ((j ≡ length l) × (a ≡ b))
  at_end [] a b zero e = inr (refl, some-injective a b e)
  at_end [] a b (suc j) e = absurd (some-ne-none b (sym e))
  at_end (x ∷ xs) a b zero e = inl e
  at_end (x ∷ xs) a b (suc j) e = ⊎_elim inl (λ t. inr (ap suc t.0, t.1)) (at_end xs a b j e)

  pub below : (l : List A) (i : ℕ) (a : A) → get_elem? l i ≡ some a → i < length l
  below [] i a e = absurd (some-ne-none a (sym e))
  below (x ∷ xs) zero a e = omega arith
  below (x ∷ xs) (suc i) a e = let h = below xs i a e in omega arith

module _ {I : Type 0} where
  pub items_of-append : (k : ℕ) (xs ys : List (ℕ × I)) → items_of k (xs ++ ys) ≡ items_of k xs ++ items_of k ys
  items_of-append k [] ys = refl
  items_of-append k (x ∷ xs) ys = elim (x.0 == k) as (λ b. cond b (x ∷ items_of k (xs ++ ys)) (items_of k (xs ++ ys)) ≡ cond b (x ∷ items_of k xs) (items_of k xs) ++ items_of k ys) [
    | true ↦ ap (λ l. x ∷ l) (items_of-append k xs ys)
    | false ↦ items_of-append k xs ys
  ]

  pub items_of-others : (k m : ℕ) (xs : List (ℕ × I)) → m ≢ k → AllNumbered k xs → items_of m xs ≡ []
  items_of-others k m [] ne all = refl
  items_of-others k m (x ∷ xs) ne all = ap (λ b. cond b (x ∷ items_of m xs) (items_of m xs)) (ne_eqb x.0 m (λ e. ne (sym e ∙ all.0))) ∙ items_of-others k m xs ne all.1

  pub starts_self : (l : List (ℕ × I)) → StartsWith l l
  starts_self l = ([], sym (append-nil l))

  pub legal_self : (l : List (ℕ × I)) (k : ℕ) → IsLegal l k l
  legal_self l k = (starts_self l, refl)

  -- what is legal stays so where the log grows by items of another number
  pub legal_grown : (k m : ℕ) (log log' seen : List (ℕ × I)) → m ≢ k → GrownBy k log log' → IsLegal log m seen → IsLegal log' m seen
  legal_grown k m log log' seen ne grown legal = (
    (legal.0.0 ++ grown.0, grown.1 ∙ ap (λ l. l ++ grown.0) legal.0.1 ∙ append_assoc seen legal.0.0 grown.0),
    ap (items_of m) grown.1 ∙ items_of-append m log grown.0 ∙ ap (λ l. items_of m log ++ l) (items_of-others k m grown.0 ne grown.2) ∙ append-nil (items_of m log) ∙ legal.1,
  )

  pub all_map : (P Q : PassView I → Type 0) → ((p : PassView I) → P p → Q p) → (ps : List (PassView I)) → AllPasses P ps → AllPasses Q ps
  all_map P Q f [] h = tt
  all_map P Q f (p ∷ ps) h = (f p h.0, all_map P Q f ps h.1)

  pub all_both : (P Q R : PassView I → Type 0) → ((p : PassView I) → P p → Q p → R p) → (ps : List (PassView I)) → AllPasses P ps → AllPasses Q ps → AllPasses R ps
  all_both P Q R f [] h i = tt
  all_both P Q R f (p ∷ ps) h i = (f p h.0 i.0, all_both P Q R f ps h.1 i.1)

  pub all_append : (P : PassView I → Type 0) (ps qs : List (PassView I)) → AllPasses P ps → AllPasses P qs → AllPasses P (ps ++ qs)
  all_append P [] qs h i = i
  all_append P (p ∷ ps) qs h i = (h.0, all_append P ps qs h.1 i)

  pub total_set : (f : SeatView I → ℕ) (views : List (SeatView I)) (j : ℕ) (v w : SeatView I) → get_elem? views j ≡ some v → total f (set views j w) + f v ≡ total f views + f w
  total_set f [] j v w e = absurd (some-ne-none v (sym e))
  total_set f (x ∷ xs) zero v w e = let same : f x ≡ f v = ap f (some-injective x v e) in omega arith
  total_set f (x ∷ xs) (suc j) v w e = let h = total_set f xs j v w e in omega arith

  pub total_at : (f : SeatView I → ℕ) (views : List (SeatView I)) (j : ℕ) (v : SeatView I) → get_elem? views j ≡ some v → f v ≤ total f views
  total_at f [] j v e = absurd (some-ne-none v (sym e))
  total_at f (x ∷ xs) zero v e = let same : f x ≡ f v = ap f (some-injective x v e) in omega arith
  total_at f (x ∷ xs) (suc j) v e = let h = total_at f xs j v e in omega arith

  pub total_two : (f : SeatView I → ℕ) (views : List (SeatView I)) (i j : ℕ) (v w : SeatView I) → i ≢ j → get_elem? views i ≡ some v → get_elem? views j ≡ some w → f v + f w ≤ total f views
  total_two f [] i j v w ne e d = absurd (some-ne-none v (sym e))
  total_two f (x ∷ xs) zero zero v w ne e d = absurd (ne refl)
  total_two f (x ∷ xs) zero (suc j) v w ne e d = let same : f x ≡ f v = ap f (some-injective x v e) in let h = total_at f xs j w d in omega arith
  total_two f (x ∷ xs) (suc i) zero v w ne e d = let same : f x ≡ f w = ap f (some-injective x w d) in let h = total_at f xs i v e in omega arith
  total_two f (x ∷ xs) (suc i) (suc j) v w ne e d = let h = total_two f xs i j v w (λ h. ne (ap suc h)) e d in omega arith

  pub total_append : (f : SeatView I → ℕ) (views : List (SeatView I)) (w : SeatView I) → total f (views ++ w ∷ []) ≡ total f views + f w
  total_append f [] w = omega arith
  total_append f (x ∷ xs) w = let h = total_append f xs w in omega arith

  pub distinct_append : (ps qs : List (PassView I)) → Distinct ps → Distinct qs → AllPasses (λ p. AllPasses (λ q. q.number ≢ p.number) qs) ps → Distinct (ps ++ qs)
  distinct_append [] qs f e cross = e
  distinct_append (p ∷ ps) qs f e cross = (all_append (λ q. q.number ≢ p.number) ps qs f.0 cross.0, distinct_append ps qs f.1 e cross.1)

  pub any_left : (P : PassView I → Type 0) (ps qs : List (PassView I)) → AnyPass P ps → AnyPass P (ps ++ qs)
  any_left P [] qs h = absurd h
  any_left P (p ∷ ps) qs h = ⊎_elim inl (λ t. inr (any_left P ps qs t)) h

  pub any_right : (P : PassView I → Type 0) (ps qs : List (PassView I)) → AnyPass P qs → AnyPass P (ps ++ qs)
  any_right P [] qs h = h
  any_right P (p ∷ ps) qs h = inr (any_right P ps qs h)

  pub any_some : (P : PassView I → Type 0) (ps : List (PassView I)) → AnyPass P ps → 0 < length ps
  any_some P [] h = absurd h
  any_some P (p ∷ ps) h = omega arith

  -- a part that some seat has, after a step of the seat id
  pub some_set : (P : PassView I → Type 0) (views : List (SeatView I)) (id : ℕ) (v w : SeatView I) → get_elem? views id ≡ some v
      → (AnyPass P v.passes → AnyPass P w.passes) → SomeSeat P views → SomeSeat P (set views id w)
  some_set P views id v w at keep s = elim (ℕ_discrete s.0 id) as (λ _. SomeSeat P (set views id w)) [
    | yes e ↦ (id, w, get_set views id v w at, keep (subst (λ (u : SeatView I). AnyPass P u.passes) (some-injective s.1 v (sym s.2 ∙ ap (λ j. get_elem? views j) e ∙ at)) s.3))
    | no ne ↦ (s.0, s.1, set_else views id s.0 w ne ∙ s.2, s.3)
  ]

  -- after a cut
  pub some_cut : (P : PassView I → Type 0) (views : List (SeatView I)) (id : ℕ) (v left right : SeatView I) → get_elem? views id ≡ some v
      → (AnyPass P v.passes → AnyPass P right.passes ⊎ AnyPass P left.passes) → SomeSeat P views → SomeSeat P (set views id left ++ right ∷ [])
  some_cut P views id v left right at keep s =
      let vs : List (SeatView I) = set views id left in
      elim (ℕ_discrete s.0 id) as (λ _. SomeSeat P (vs ++ right ∷ [])) [
        | yes e ↦ ⊎_elim {C = SomeSeat P (vs ++ right ∷ [])}
            (λ r. (length vs, right, at_last vs right (length vs) refl, r))
            (λ l. (id, left, at_longer vs (right ∷ []) id left (get_set views id v left at), l))
            (keep (subst (λ (u : SeatView I). AnyPass P u.passes) (some-injective s.1 v (sym s.2 ∙ ap (λ j. get_elem? views j) e ∙ at)) s.3))
        | no ne ↦ (s.0, s.1, at_longer vs (right ∷ []) s.0 s.1 (set_else views id s.0 left ne ∙ s.2), s.3)
      ]

  -- after a join
  pub some_join : (P : PassView I → Type 0) (views : List (SeatView I)) (id other : ℕ) (v w both spent : SeatView I) → ¬ (other ≡ id) → get_elem? views id ≡ some v → get_elem? views other ≡ some w
      → (AnyPass P v.passes → AnyPass P both.passes) → (AnyPass P w.passes → AnyPass P both.passes) → SomeSeat P views → SomeSeat P (set (set views id both) other spent)
  some_join P views id other v w both spent apart at there mine theirs s =
      let vs : List (SeatView I) = set (set views id both) other spent in
      let here : get_elem? vs id ≡ some both = set_else (set views id both) other id spent (λ e. apart (sym e)) ∙ get_set views id v both at in
      elim (ℕ_discrete s.0 id) as (λ _. SomeSeat P vs) [
        | yes e ↦ (id, both, here, mine (subst (λ (u : SeatView I). AnyPass P u.passes) (some-injective s.1 v (sym s.2 ∙ ap (λ j. get_elem? views j) e ∙ at)) s.3))
        | no ne ↦ elim (ℕ_discrete s.0 other) as (λ _. SomeSeat P vs) [
          | yes e ↦ (id, both, here, theirs (subst (λ (u : SeatView I). AnyPass P u.passes) (some-injective s.1 w (sym s.2 ∙ ap (λ j. get_elem? views j) e ∙ there)) s.3))
          | no ne' ↦ (s.0, s.1, set_else (set views id both) other s.0 spent ne' ∙ set_else views id s.0 both ne ∙ s.2, s.3)
        ]
      ]

  -- what holds of each view after a step of the seat id
  pub after_set : (P : SeatView I → Type 0) (views : List (SeatView I)) (id : ℕ) (w : SeatView I)
      → ((j : ℕ) (v : SeatView I) → get_elem? views j ≡ some v → P v) → P w → (j : ℕ) (v : SeatView I) → get_elem? (set views id w) j ≡ some v → P v
  after_set P views id w others mine j v e = ⊎_elim (λ (x : (j ≡ id) × (w ≡ v)). subst P x.1 mine) (λ (x : (j ≢ id) × (get_elem? views j ≡ some v)). others j v x.1) (at_set views id j w v e)

  -- what holds of each view after one was cut in two
  pub after_cut : (P : ℕ → SeatView I → Type 0) (views : List (SeatView I)) (id : ℕ) (left right : SeatView I)
      → ((j : ℕ) (v : SeatView I) → j ≢ id → get_elem? views j ≡ some v → P j v) → P id left → P (length (set views id left)) right
      → (j : ℕ) (v : SeatView I) → get_elem? (set views id left ++ right ∷ []) j ≡ some v → P j v
  after_cut P views id left right others mine new j v e = ⊎_elim
      (λ old. ⊎_elim
      (λ (x : (j ≡ id) × (left ≡ v)). subst (λ (y : ℕ × SeatView I). P y.0 y.1) (λ k. (sym x.0 k, x.1 k)) mine)
      (λ (x : (j ≢ id) × (get_elem? views j ≡ some v)). others j v x.0 x.1)
      (at_set views id j left v old))
      (λ (x : (j ≡ length (set views id left)) × (right ≡ v)). subst (λ (y : ℕ × SeatView I). P y.0 y.1) (λ k. (sym x.0 k, x.1 k)) new)
      (at_end (set views id left) right v j e)

  -- what holds of each view after two were put together
  pub after_join : (P : ℕ → SeatView I → Type 0) (views : List (SeatView I)) (id other : ℕ) (both spent : SeatView I)
      → ((j : ℕ) (v : SeatView I) → j ≢ id → j ≢ other → get_elem? views j ≡ some v → P j v) → P id both → P other spent
      → (j : ℕ) (v : SeatView I) → get_elem? (set (set views id both) other spent) j ≡ some v → P j v
  after_join P views id other both spent others mine theirs j v e = ⊎_elim
      (λ (x : (j ≡ other) × (spent ≡ v)). subst (λ (y : ℕ × SeatView I). P y.0 y.1) (λ k. (sym x.0 k, x.1 k)) theirs)
      (λ (x : (j ≢ other) × (get_elem? (set views id both) j ≡ some v)). ⊎_elim
      (λ (y : (j ≡ id) × (both ≡ v)). subst (λ (z : ℕ × SeatView I). P z.0 z.1) (λ k. (sym y.0 k, y.1 k)) mine)
      (λ (y : (j ≢ id) × (get_elem? views j ≡ some v)). others j v y.0 x.0 y.1)
      (at_set views id j both v x.1))
      (at_set (set views id both) other j spent v e)

module _ (I : Type 0) where
  pub fresh_length : (k n : ℕ) → length (new_passes {I = I} k n) ≡ n
  fresh_length k zero = refl
  fresh_length k (suc n) = let h = fresh_length (suc k) n in omega arith

  pub fresh_all : (P : PassView I → Type 0) → ((k : ℕ) → P (pass_view k [])) → (k n : ℕ) → AllPasses P (new_passes k n)
  fresh_all P f k zero = tt
  fresh_all P f k (suc n) = (f k, fresh_all P f (suc k) n)

  pub fresh_above : (k s n : ℕ) → k < s → AllPasses (λ (p : PassView I). p.number ≢ k) (new_passes s n)
  fresh_above k s zero lt = tt
  fresh_above k s (suc n) lt = ((λ e. omega arith), fresh_above k (suc s) n (omega arith))

  pub fresh_seen : (k n : ℕ) → 0 < n → HasSeen [] (new_passes {I = I} k n)
  fresh_seen k zero lt = absurd (omega arith)
  fresh_seen k (suc n) lt = inl refl

  pub fresh_number : (i k n : ℕ) → k ≤ i → i < k + n → HasNumber i (new_passes {I = I} k n)
  fresh_number i k zero le lt = absurd (omega arith)
  fresh_number i k (suc n) le lt = elim (ℕ_discrete k i) as (λ _. HasNumber i (new_passes {I = I} k (suc n))) [
    | yes e ↦ inl e
    | no ne ↦ inr (fresh_number i (suc k) n (omega arith) (omega arith))
  ]

  pub fresh_distinct : (k n : ℕ) → Distinct (new_passes {I = I} k n)
  fresh_distinct k zero = tt
  fresh_distinct k (suc n) = (fresh_above k (suc k) n (omega arith), fresh_distinct (suc k) n)
