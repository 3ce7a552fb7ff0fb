-- Lemmas on lists of disjoint sets.
use Rattle.std.proofs.Common.{◌≡◌, ◌⊎◌, inl, inr, ⊎_elim, ◌↔◌, ℕ, suc, ◌+◌, ◌<◌, List, [], ◌∷◌, ◌++◌, All, map, length, get_or, take, drop, sym, ap, subst, ◌∙◌, arith}
use Rattle.std.proofs.Math.Seq.{drop-cons}
use Rattle.std.proofs.lemmas.List.{take_more, take-append-drop}
use Rattle.std.proofs.lemmas.List.Elements.{All-nil, All-cons, All-head, All-tail, All-append}
use Rattle.ti_rect.specs.Families.{IsInOne, AreApart, Covers}

module _ {A X : Type 0} (In : A → X → Type 0) where
  pub in_append : (xs ys : List A) (x : X) → IsInOne In (xs ++ ys) x ↔ (IsInOne In xs x ⊎ IsInOne In ys x)
  in_append [] ys x = (λ m. inr m, ⊎_elim (λ m. absurd m) (λ m. m))
  in_append (a ∷ xs) ys x =
      let h = in_append xs ys x in (
        ⊎_elim (λ i. inl (inl i)) (λ m. ⊎_elim (λ n. inl (inr n)) inr (h.0 m)),
        ⊎_elim (⊎_elim inl (λ m. inr (h.1 (inl m)))) (λ m. inr (h.1 (inr m))),
      )

  apart_append : (xs ys : List A) → AreApart In xs → AreApart In ys → ((x : X) → IsInOne In xs x → IsInOne In ys x → ⊥) → AreApart In (xs ++ ys)
  apart_append [] ys a b away = b
  apart_append (z ∷ xs) ys a b away = (
    λ x i m. ⊎_elim (λ n. a.0 x i n) (λ n. away x (inl i) n) ((in_append xs ys x).0 m),
    apart_append xs ys a.1 b (λ x m n. away x (inr m) n),
  )

  apart_parts : (xs ys : List A) → AreApart In (xs ++ ys) → (x : X) → IsInOne In xs x → IsInOne In ys x → ⊥
  apart_parts [] ys a x m n = m
  apart_parts (z ∷ xs) ys a x (inl i) n = a.0 x i ((in_append xs ys x).1 (inr n))
  apart_parts (z ∷ xs) ys a x (inr m) n = apart_parts xs ys a.1 x m n

  -- ---- the step of a loop over a list

  pub in_more : (xs : List A) (i : ℕ) (d : A) → i < length xs → (x : X) → IsInOne In (take (i + 1) xs) x ↔ (IsInOne In (take i xs) x ⊎ In (get_or xs i d) x)
  in_more xs i d h x =
      let a = in_append (take i xs) (get_or xs i d ∷ []) x in
      subst (λ l. IsInOne In l x ↔ (IsInOne In (take i xs) x ⊎ In (get_or xs i d) x)) (sym (take_more xs i d h))
      (λ m. ⊎_elim inl (⊎_elim inr (λ n. absurd n)) (a.0 m), ⊎_elim (λ m. a.1 (inl m)) (λ m. a.1 (inr (inl m))))

  pub apart_more : (xs : List A) (i : ℕ) (d : A) → i < length xs → AreApart In xs → (x : X) → IsInOne In (take i xs) x → In (get_or xs i d) x → ⊥
  apart_more xs i d h a x m n =
      let cut : drop i xs ≡ get_or xs i d ∷ drop (i + 1) xs = drop-cons xs i d h ∙ ap (λ k. get_or xs i d ∷ drop k xs) (let e : suc i ≡ i + 1 = omega arith in e) in
      let whole : xs ≡ take i xs ++ (get_or xs i d ∷ drop (i + 1) xs) = sym (take-append-drop i xs) ∙ ap (λ l. take i xs ++ l) cut in
      apart_parts (take i xs) (get_or xs i d ∷ drop (i + 1) xs) (subst (AreApart In) whole a) x m (inl n)

  pub in_at : (xs : List A) (i : ℕ) (d : A) → i < length xs → (x : X) → In (get_or xs i d) x → IsInOne In xs x
  in_at xs i d h x m =
      let cut : drop i xs ≡ get_or xs i d ∷ drop (suc i) xs = drop-cons xs i d h in
      let whole : take i xs ++ (get_or xs i d ∷ drop (suc i) xs) ≡ xs = ap (λ l. take i xs ++ l) (sym cut) ∙ take-append-drop i xs in
      subst (λ l. IsInOne In l x) whole ((in_append (take i xs) (get_or xs i d ∷ drop (suc i) xs) x).1 (inr (inl m)))

module _ {A X : Type 0} (Good : A → Type 0) (In : A → X → Type 0) where
  pub covers_none : (P : X → Type 0) → ((x : X) → P x → ⊥) → Covers Good In [] P
  covers_none P none = record { good = All-nil Good; apart = tt; has = λ x. (λ m. absurd m, λ p. none x p) }

  pub covers_one : (a : A) (P : X → Type 0) → Good a → ((x : X) → In a x ↔ P x) → Covers Good In (a ∷ []) P
  covers_one a P good same = record {
    good = All-cons Good a [] good (All-nil Good);
    apart = (λ x i m. m, tt);
    has = λ x. (⊎_elim (λ i. (same x).0 i) (λ m. absurd m), λ p. inl ((same x).1 p));
  }

  pub covers_append : (xs ys : List A) (P Q R : X → Type 0) → Covers Good In xs P → Covers Good In ys Q → ((x : X) → P x → Q x → ⊥)
      → ((x : X) → (P x ⊎ Q x) ↔ R x) → Covers Good In (xs ++ ys) R
  covers_append xs ys P Q R c d away same = record {
    good = All-append Good xs ys c.good d.good;
    apart = apart_append In xs ys c.apart d.apart (λ x m n. away x ((c.has x).0 m) ((d.has x).0 n));
    has = λ x. let a = in_append In xs ys x in (
      λ m. (same x).0 (⊎_elim (λ n. inl ((c.has x).0 n)) (λ n. inr ((d.has x).0 n)) (a.0 m)),
      λ r. a.1 (⊎_elim (λ p. inl ((c.has x).1 p)) (λ q. inr ((d.has x).1 q)) ((same x).1 r)),
    );
  }

  pub covers_same : (xs : List A) (P Q : X → Type 0) → Covers Good In xs P → ((x : X) → P x ↔ Q x) → Covers Good In xs Q
  covers_same xs P Q c same = record {
    good = c.good;
    apart = c.apart;
    has = λ x. (λ m. (same x).0 ((c.has x).0 m), λ q. (c.has x).1 ((same x).1 q));
  }

  -- those of a list that have members are all that counts
  pub covers_list : (xs : List A) → All Good xs → AreApart In xs → Covers Good In xs (IsInOne In xs)
  covers_list xs good apart = record { good = good; apart = apart; has = λ x. (λ m. m, λ m. m) }

-- ---- sets made of others, one of one

module _ {A B X Y : Type 0} (Good : A → Type 0) (In : A → X → Type 0) (Good' : B → Type 0) (In' : B → Y → Type 0) (f : A → B) (g : Y → X) (Beside : Y → Type 0) where
  pub record Lifts (a : A) : Type 0 where
    pub good : Good' (f a)
    pub has : (y : Y) → In' (f a) y ↔ (In a (g y) × Beside y)

  each : (xs : List A) (P : X → Type 0) → All Good xs → ((x : X) → IsInOne In xs x → P x) → ((a : A) → Good a → ((x : X) → In a x → P x) → Lifts a) → All Lifts xs
  each [] P good sub lift = All-nil Lifts
  each (a ∷ xs) P good sub lift = All-cons Lifts a xs (lift a (All-head Good a xs good) (λ x i. sub x (inl i)))
      (each xs P (All-tail Good a xs good) (λ x m. sub x (inr m)) lift)

  map_good : (xs : List A) → All Lifts xs → All Good' (map f xs)
  map_good [] l = All-nil Good'
  map_good (a ∷ xs) l = All-cons Good' (f a) (map f xs) (All-head Lifts a xs l).good (map_good xs (All-tail Lifts a xs l))

  map_in : (xs : List A) → All Lifts xs → (y : Y) → IsInOne In' (map f xs) y ↔ (IsInOne In xs (g y) × Beside y)
  map_in [] l y = (λ m. absurd m, λ m. m.0)
  map_in (a ∷ xs) l y =
      let h = (All-head Lifts a xs l).has y in
      let t = map_in xs (All-tail Lifts a xs l) y in (
        ⊎_elim (λ i. let k = h.0 i in (inl k.0, k.1)) (λ m. let k = t.0 m in (inr k.0, k.1)),
        λ m. ⊎_elim (λ i. inl (h.1 (i, m.1))) (λ n. inr (t.1 (n, m.1))) m.0,
      )

  map_apart : (xs : List A) → All Lifts xs → AreApart In xs → AreApart In' (map f xs)
  map_apart [] l a = tt
  map_apart (z ∷ xs) l a =
      let h = All-head Lifts z xs l in
      let t = All-tail Lifts z xs l in
      (λ y i m. a.0 (g y) ((h.has y).0 i).0 ((map_in xs t y).0 m).0, map_apart xs t a.1)

  pub covers_map : (xs : List A) (P : X → Type 0) → Covers Good In xs P → ((a : A) → Good a → ((x : X) → In a x → P x) → Lifts a)
      → Covers Good' In' (map f xs) (λ y. P (g y) × Beside y)
  covers_map xs P c lift =
      let l = each xs P c.good (λ x m. (c.has x).0 m) lift in
      record {
        good = map_good xs l;
        apart = map_apart xs l c.apart;
        has = λ y. let m = map_in xs l y in (
          λ i. let k = m.0 i in ((c.has (g y)).0 k.0, k.1),
          λ p. m.1 ((c.has (g y)).1 p.0, p.1),
        );
      }
