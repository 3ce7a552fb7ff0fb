-- Where the objects, blocks and views of a region stand, after the list of them changes.
use Rattle.std.proofs.Common.{◌≡◌, ℕ, suc, ◌+◌, ◌<◌, ◌≤◌, eqb, Bool, true, false, if◌then◌else◌, List, [], ◌∷◌, ◌++◌, map, length, Option, Some, refl, sym, ap, subst, ◌∙◌, arith}
use Rattle.std.specs.List.{slice_get, flat_map}
use Rattle.std.specs.Option.{option_map_or}
use Rattle.std.proofs.lemmas.Bool.{eqb-true, ne_eqb}
use Rattle.std.proofs.lemmas.List.{map-append, length-map}
use Rattle.ti_base.specs.declared.value.Value.{Value}
use Rattle.ti_heap.specs.declared.allocation.Allocation.{Allocation}
use Rattle.ti_heap.specs.declared.allocation.Allocation.TheVariants.{Object, Block, ViewOf, Gone}
use Rattle.ti_heap.specs.Places.{places_from, places_in_region}
use Rattle.ti_heap.specs.Things.{allocation_region, values_of, values_in, values_at, put_in, drop_if_in, changed_at}
use Rattle.ti_heap.proofs.Lists.{map_changed}

-- ---- one more

-- a place before others, if there is one
abbrev pub first_if : Bool → ℕ → List ℕ → List ℕ
first_if b n ps = if b then n ∷ ps else ps

-- a place after others, if there is one
abbrev pub last_if : Bool → ℕ → List ℕ → List ℕ
last_if b n ps = if b then ps ++ n ∷ [] else ps

places_more : (n r : ℕ) (rs : List ℕ) (s : ℕ)
    → places_from n r (rs ++ s ∷ []) ≡ last_if (eqb s r) (n + length rs) (places_from n r rs)
places_more n r [] s = by (eqb s r)
  where
    by : (b : Bool) → first_if b n [] ≡ last_if b (n + 0) []
    by true = ap (λ (k : ℕ). k ∷ []) (let e : n ≡ n + 0 = omega arith in e)
    by false = refl
places_more n r (q ∷ rs) s = by (eqb q r) (eqb s r) (places_more (n + 1) r rs s)
  where
    ps : List ℕ
    ps = places_from (n + 1) r rs

    at : n + 1 + length rs ≡ n + suc (length rs)
    at = omega arith

    by : (a b : Bool) → places_from (n + 1) r (rs ++ s ∷ []) ≡ last_if b (n + 1 + length rs) ps
        → first_if a n (places_from (n + 1) r (rs ++ s ∷ []))
        ≡ last_if b (n + suc (length rs)) (first_if a n ps)
    by true true e = ap (λ (xs : List ℕ). n ∷ xs) e ∙ ap (λ (k : ℕ). n ∷ (ps ++ k ∷ [])) at
    by true false e = ap (λ (xs : List ℕ). n ∷ xs) e
    by false true e = e ∙ ap (λ (k : ℕ). ps ++ k ∷ []) at
    by false false e = e

pub inside_more : (r : ℕ) (xs : List Allocation) (t : Allocation)
    → places_in_region r (xs ++ t ∷ []) ≡ last_if (eqb (allocation_region t) r) (length xs) (places_in_region r xs)
inside_more r xs t =
    let regions = map allocation_region xs in
    let at : 0 + length regions ≡ length xs = omega (arith, length-map xs allocation_region) in
    ap (places_from 0 r) (map-append allocation_region xs (t ∷ []))
    ∙ places_more 0 r regions (allocation_region t)
    ∙ ap (λ (k : ℕ). last_if (eqb (allocation_region t) r) k (places_in_region r xs)) at

-- ---- another value in a cell

put_region : (i : ℕ) (v : Value) (t : Allocation)
    → allocation_region (put_in i v t) ≡ allocation_region t
put_region i v (Object region fields) = refl
put_region i v (Block whole elements) = refl
put_region i v (ViewOf view) = refl
put_region i v Gone = refl

pub inside_put : (r n i : ℕ) (v : Value) (xs : List Allocation)
    → places_in_region r (changed_at n (put_in i v) xs) ≡ places_in_region r xs
inside_put r n i v xs =
    ap (places_from 0 r) (map_changed allocation_region (put_in i v) n xs (put_region i v))

-- ---- dropping a region

-- nothing that was dropped is in a region
gone_outside : (r : ℕ) → 0 < r → eqb 0 r ≡ false
gone_outside r pos = ne_eqb 0 r (λ z. absurd (omega arith))

module _ (r : ℕ) where
  -- the places of the region in a part of the list that begins at place n
  abbrev pub places_of : ℕ → List Allocation → List ℕ
  places_of n xs = places_from n r (map allocation_region xs)

  -- something is the first place in this part, and these are left when what stands there is dropped
  pub record IsFirst (n : ℕ) (xs : List Allocation) (p : ℕ) (ps : List ℕ) : Type 0 where
    pub at : ℕ
    pub place : p ≡ n + at
    pub within : at < length xs
    pub left : places_of n (changed_at at (drop_if_in r) xs) ≡ ps

  first_place : 0 < r → (n : ℕ) (xs : List Allocation) (p : ℕ) (ps : List ℕ)
      → places_of n xs ≡ p ∷ ps → IsFirst n xs p ps
  first_place pos n [] p ps e = cc
  first_place pos n (t ∷ ts) p ps e =
      by (eqb (allocation_region t) r) refl e (λ f. first_place pos (n + 1) ts p ps f)
    where
      by : (b : Bool) → eqb (allocation_region t) r ≡ b
          → first_if b n (places_of (n + 1) ts) ≡ p ∷ ps
          → (places_of (n + 1) ts ≡ p ∷ ps → IsFirst (n + 1) ts p ps) → IsFirst n (t ∷ ts) p ps
      by true is f later =
          let here : n ≡ p = cc in
          let rest : places_of (n + 1) ts ≡ ps = cc in
          let gone : drop_if_in r t ≡ Gone = ap (λ (b : Bool). if b then Gone else t) is in
          record {
            at = 0;
            place = omega arith;
            within = omega arith;
            left = ap (λ (u : Allocation). places_of n (u ∷ ts)) gone
                ∙ ap (λ (b : Bool). first_if b n (places_of (n + 1) ts)) (gone_outside r pos)
                ∙ rest;
          }
      by false is f later =
          let h = later f in
          let after = changed_at h.at (drop_if_in r) ts in
          record {
            at = suc h.at;
            place = omega (arith, h.place);
            within = omega (arith, h.within);
            left = ap (λ (b : Bool). first_if b n (places_of (n + 1) after)) is ∙ h.left;
          }

  -- the next place is in the list, and the others are left when what stands there is dropped
  pub next_place : 0 < r → (xs : List Allocation) (p : ℕ) (ps : List ℕ) → places_in_region r xs ≡ p ∷ ps
      → (p < length xs) × (places_in_region r (changed_at p (drop_if_in r) xs) ≡ ps)
  next_place pos xs p ps e =
      let h = first_place pos 0 xs p ps e in
      let at : h.at ≡ p = omega (arith, h.place) in (
        omega (arith, h.within, at),
        subst (λ (k : ℕ). places_in_region r (changed_at k (drop_if_in r) xs) ≡ ps) at h.left,
      )

  -- where the region has no place, nothing is dropped
  pub no_place : (n : ℕ) (xs : List Allocation) → places_of n xs ≡ []
      → map (drop_if_in r) xs ≡ xs
  no_place n [] e = refl
  no_place n (t ∷ ts) e =
      by (eqb (allocation_region t) r) refl e (λ f. no_place (n + 1) ts f)
    where
      by : (b : Bool) → eqb (allocation_region t) r ≡ b → first_if b n (places_of (n + 1) ts) ≡ []
          → (places_of (n + 1) ts ≡ [] → map (drop_if_in r) ts ≡ ts)
          → drop_if_in r t ∷ map (drop_if_in r) ts ≡ t ∷ ts
      by true is f later = cc
      by false is f later =
          let first : drop_if_in r t ≡ t = ap (λ (b : Bool). if b then Gone else t) is in
          (λ k. first k ∷ later f k)

  drop_twice : (t : Allocation) → drop_if_in r (drop_if_in r t) ≡ drop_if_in r t
  drop_twice t = by (eqb (allocation_region t) r) refl
    where
      same : (b : Bool) → (if b then Gone else Gone) ≡ Gone
      same true = refl
      same false = refl

      by : (b : Bool) → eqb (allocation_region t) r ≡ b
          → drop_if_in r (if b then Gone else t) ≡ (if b then Gone else t)
      by true is = same (eqb 0 r)
      by false is = ap (λ (b : Bool). if b then Gone else t) is

  -- what was dropped needn't be dropped again
  pub dropped_once : (i : ℕ) (xs : List Allocation)
      → map (drop_if_in r) (changed_at i (drop_if_in r) xs) ≡ map (drop_if_in r) xs
  dropped_once i xs = map_changed (drop_if_in r) (drop_if_in r) i xs drop_twice

  places_kept : (q : ℕ) → (q ≡ r → ⊥) → 0 < q → (n : ℕ) (xs : List Allocation)
      → places_from n q (map allocation_region (map (drop_if_in r) xs))
      ≡ places_from n q (map allocation_region xs)
  places_kept q apart pos n [] = refl
  places_kept q apart pos n (t ∷ ts) =
      let rest = places_kept q apart pos (n + 1) ts in
      (λ k. first_if (head k) n (rest k))
    where
      other : allocation_region t ≡ r → allocation_region t ≡ q → ⊥
      other is same = apart (sym same ∙ is)

      by : (b : Bool) → eqb (allocation_region t) r ≡ b
          → eqb (allocation_region (if b then Gone else t)) q ≡ eqb (allocation_region t) q
      by true is =
          gone_outside q pos
          ∙ sym (ne_eqb (allocation_region t) q (other (eqb-true (allocation_region t) r is)))
      by false is = refl

      head : eqb (allocation_region (drop_if_in r t)) q ≡ eqb (allocation_region t) q
      head = by (eqb (allocation_region t) r) refl

  -- the places of another region stay
  pub inside_kept : (q : ℕ) → (q ≡ r → ⊥) → 0 < q → (xs : List Allocation)
      → places_in_region q (map (drop_if_in r) xs) ≡ places_in_region q xs
  inside_kept q apart pos xs = places_kept q apart pos 0 xs

  -- the dropped region has no place any more
  pub none_inside : 0 < r → (n : ℕ) (xs : List Allocation)
      → places_of n (map (drop_if_in r) xs) ≡ []
  none_inside pos n [] = refl
  none_inside pos n (t ∷ ts) =
      by (none_inside pos (n + 1) ts) (eqb (allocation_region t) r) refl
    where
      after : List Allocation
      after = map (drop_if_in r) ts

      skipped : (b : Bool) → b ≡ false → places_of (n + 1) after ≡ []
          → first_if b n (places_of (n + 1) after) ≡ []
      skipped b is rest = ap (λ (b : Bool). first_if b n (places_of (n + 1) after)) is ∙ rest

      by : places_of (n + 1) after ≡ [] → (b : Bool) → eqb (allocation_region t) r ≡ b
          → places_of n ((if b then Gone else t) ∷ after) ≡ []
      by rest true is = skipped (eqb 0 r) (gone_outside r pos) rest
      by rest false is = skipped (eqb (allocation_region t) r) is rest

-- ---- what the places hold

module _ (r : ℕ) (all : List Allocation) where
  places_values : (n : ℕ) (ts : List Allocation)
      → ((i k : ℕ) (t : Allocation) → k ≡ n + i → slice_get ts i ≡ Some t → slice_get all k ≡ Some t)
      → flat_map (values_at r all) (places_of r n ts) ≡ flat_map (values_in r) ts
  places_values n [] h = refl
  places_values n (t ∷ ts) h =
      by (places_values (n + 1) ts (λ i k u e g. h (suc i) k u (omega (arith, e)) g))
      (eqb (allocation_region t) r) refl
    where
      first : values_at r all n ≡ values_in r t
      first =
          ap (λ (o : Option Allocation). option_map_or (values_in r) o [])
          (h 0 n t (omega arith) refl)

      by : flat_map (values_at r all) (places_of r (n + 1) ts) ≡ flat_map (values_in r) ts
          → (b : Bool) → eqb (allocation_region t) r ≡ b
          → flat_map (values_at r all) (first_if b n (places_of r (n + 1) ts))
          ≡ values_in r t ++ flat_map (values_in r) ts
      by rest true is = (λ k. first k ++ rest k)
      by rest false is =
          let none : values_in r t ≡ [] = ap (λ (b : Bool). if b then values_of t else []) is in
          rest ∙ sym (ap (λ (vs : List Value). vs ++ flat_map (values_in r) ts) none)

-- the places of a region hold the values that are in the region
pub inside_values : (r : ℕ) (ts : List Allocation)
    → flat_map (values_at r ts) (places_in_region r ts) ≡ flat_map (values_in r) ts
inside_values r ts = places_values r ts 0 ts
    (λ i k t e g.
    subst (λ (n : ℕ). slice_get ts n ≡ Some t) (let z : i ≡ k = omega arith in z) g)

pub few_places : (n r : ℕ) (rs : List ℕ) → length (places_from n r rs) ≤ length rs
few_places n r [] = omega arith
few_places n r (q ∷ rs) = by (eqb q r) (few_places (n + 1) r rs)
  where
    by : (b : Bool) → length (places_from (n + 1) r rs) ≤ length rs
        → length (first_if b n (places_from (n + 1) r rs)) ≤ suc (length rs)
    by true h = omega arith
    by false h = omega arith
