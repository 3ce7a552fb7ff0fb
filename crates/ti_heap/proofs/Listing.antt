-- The values that `cells_of` yields are those of the region's cells, each once.
use Rattle.std.proofs.Common.{◌≡◌, ◌⊎◌, inl, inr, ⊎_elim, ◌↔◌, ℕ, zero, suc, ◌+◌, eqb, Bool, true, false, if◌then◌else◌, List, [], ◌∷◌, ◌++◌, map, Option, Some, None, IsSome, refl, sym, ap, subst, ◌∙◌, arith}
use Rattle.std.specs.List.{slice_get, flat_map}
use Rattle.std.specs.Option.{option_and_then, is_some}
use Rattle.std.proofs.lemmas.Bool.{and_from, eqb-true, eq-eqb}
use Rattle.std.proofs.lemmas.List.{map-append}
use Rattle.ti_base.specs.declared.value.Id.{Id}
use Rattle.ti_base.specs.declared.value.Value.{Value}
use Rattle.ti_heap.specs.declared.allocation.Allocation.{Allocation}
use Rattle.ti_heap.specs.declared.allocation.Allocation.TheVariants.{Object, Block, ViewOf, Gone}
use Rattle.ti_heap.specs.Contents.{CellIndex, cell_at, IsAmong, AreDistinctCells, ListsCells}
use Rattle.ti_heap.specs.Things.{thing_at, is_named, named, live, values_of, allocation_region, values_in, all_values_in, value_in_cell, contents}
use Rattle.ti_heap.proofs.Costs.{has_some}
use Rattle.ti_heap.proofs.Names.{one_name, named_region, live_then}
use Rattle.ti_heap.proofs.Puts.{share_then, held_then}

-- ---- lists of cells

one_cell : (a b : CellIndex) → a.thing ≡ b.thing → a.number ≡ b.number → a ≡ b
one_cell a b e f = λ i. record { thing = e i; number = f i }

among_append : (xs ys : List CellIndex) (c : CellIndex) → IsAmong (xs ++ ys) c ↔ (IsAmong xs c ⊎ IsAmong ys c)
among_append [] ys c = (λ m. inr m, ⊎_elim (λ m. absurd m) (λ m. m))
among_append (x ∷ xs) ys c =
    let h = among_append xs ys c in (
      ⊎_elim (λ e. inl (inl e)) (λ m. ⊎_elim (λ a. inl (inr a)) inr (h.0 m)),
      ⊎_elim (⊎_elim inl (λ m. inr (h.1 (inl m)))) (λ m. inr (h.1 (inr m))),
    )

apart_append : (xs ys : List CellIndex) → AreDistinctCells xs → AreDistinctCells ys → ((c : CellIndex) → IsAmong xs c → IsAmong ys c → ⊥) → AreDistinctCells (xs ++ ys)
apart_append [] ys a b h = b
apart_append (x ∷ xs) ys a b h = (
  λ m. ⊎_elim a.0 (λ n. h x (inl refl) n) ((among_append xs ys x).0 m),
  apart_append xs ys a.1 b (λ c m n. h c (inr m) n),
)

-- ---- the cells of one thing

abbrev pub id_of : ℕ → ℕ → Allocation → Id
id_of m s (Object region fields) = record { maker = m; serial = s; owner = m; region = region }
id_of m s (Block whole elements) = record { maker = m; serial = s; owner = whole.block.owner; region = whole.block.region }
id_of m s (ViewOf view) = record { maker = m; serial = s; owner = view.block.owner; region = view.block.region }
id_of m s Gone = record { maker = m; serial = s; owner = m; region = 0 }

maker_of : (m s : ℕ) (t : Allocation) → (id_of m s t).maker ≡ m
maker_of m s (Object region fields) = refl
maker_of m s (Block whole elements) = refl
maker_of m s (ViewOf view) = refl
maker_of m s Gone = refl

serial_of : (m s : ℕ) (t : Allocation) → (id_of m s t).serial ≡ s
serial_of m s (Object region fields) = refl
serial_of m s (Block whole elements) = refl
serial_of m s (ViewOf view) = refl
serial_of m s Gone = refl

abbrev pub cells_from : Id → ℕ → List Value → List CellIndex
cells_from id n [] = []
cells_from id n (v ∷ vs) = cell_at id n ∷ cells_from id (suc n) vs

from_in : (id : Id) (n : ℕ) (vs : List Value) (c : CellIndex) → IsAmong (cells_from id n vs) c → (i : ℕ) × (c.thing ≡ id) × (c.number ≡ n + i) × IsSome (slice_get vs i)
from_in id n [] c m = elim m [ ]
from_in id n (v ∷ vs) c (inl e) = (0, ap (λ (x : CellIndex). x.thing) e, ap (λ (x : CellIndex). x.number) e ∙ omega arith, refl)
from_in id n (v ∷ vs) c (inr m) = let h = from_in id (suc n) vs c m in (suc h.0, h.1, h.2 ∙ omega arith, h.3)

in_from : (id : Id) (n : ℕ) (vs : List Value) (c : CellIndex) (i : ℕ) → c.thing ≡ id → c.number ≡ n + i → IsSome (slice_get vs i) → IsAmong (cells_from id n vs) c
in_from id n [] c i e f h = cc
in_from id n (v ∷ vs) c zero e f h = inl (one_cell c (cell_at id n) e (f ∙ omega arith))
in_from id n (v ∷ vs) c (suc i) e f h = inr (in_from id (suc n) vs c i e (f ∙ omega arith) h)

from_apart : (id : Id) (n : ℕ) (vs : List Value) → AreDistinctCells (cells_from id n vs)
from_apart id n [] = tt
from_apart id n (v ∷ vs) = (λ m. let h = from_in id (suc n) vs (cell_at id n) m in absurd (omega (arith, h.2)), from_apart id (suc n) vs)

from_values : (f : CellIndex → Option Value) (id : Id) (n : ℕ) (vs : List Value) → ((i k : ℕ) (x : Value) → k ≡ n + i → slice_get vs i ≡ Some x → f (cell_at id k) ≡ Some x)
    → map f (cells_from id n vs) ≡ map Some vs
from_values f id n [] h = refl
from_values f id n (v ∷ vs) h =
    let first = h 0 n v (omega arith) refl in
    let rest = from_values f id (suc n) vs (λ i k x e g. h (suc i) k x (e ∙ omega arith) g) in
    λ i. first i ∷ rest i

-- ---- the cells of the things of a process

abbrev pub things_cells : ℕ → ℕ → ℕ → List Allocation → List CellIndex
things_cells r m s [] = []
things_cells r m s (t ∷ ts) = cells_from (id_of m s t) 0 (values_in r t) ++ things_cells r m (suc s) ts

things_in : (r m s : ℕ) (ts : List Allocation) (c : CellIndex) → IsAmong (things_cells r m s ts) c
    → (i : ℕ) × (t : Allocation) × (slice_get ts i ≡ Some t) × (c.thing ≡ id_of m (s + i) t) × IsSome (slice_get (values_in r t) c.number)
things_in r m s [] c n = elim n [ ]
things_in r m s (t ∷ ts) c n = ⊎_elim
    (λ a.
    let h = from_in (id_of m s t) 0 (values_in r t) c a in
    let at : s ≡ s + 0 = omega arith in
    let number : h.0 ≡ c.number = omega (arith, h.2) in
    (0, t, refl, h.1 ∙ ap (λ (q : ℕ). id_of m q t) at, subst (λ (k : ℕ). IsSome (slice_get (values_in r t) k)) number h.3))
    (λ a.
    let h = things_in r m (suc s) ts c a in
    let at : suc s + h.0 ≡ s + suc h.0 = omega arith in
    (suc h.0, h.1, h.2, h.3 ∙ ap (λ (q : ℕ). id_of m q h.1) at, h.4))
    ((among_append (cells_from (id_of m s t) 0 (values_in r t)) (things_cells r m (suc s) ts) c).0 n)

in_things : (r m s : ℕ) (ts : List Allocation) (c : CellIndex) (i : ℕ) (t : Allocation) → slice_get ts i ≡ Some t → c.thing ≡ id_of m (s + i) t → IsSome (slice_get (values_in r t) c.number)
    → IsAmong (things_cells r m s ts) c
in_things r m s [] c i t e f h = cc
in_things r m s (u ∷ ts) c zero t e f h =
    let same : t ≡ u = cc in
    let at : s + 0 ≡ s = omega arith in
    (among_append (cells_from (id_of m s u) 0 (values_in r u)) (things_cells r m (suc s) ts) c).1
    (inl (in_from (id_of m s u) 0 (values_in r u) c c.number (f ∙ (λ k. id_of m (at k) (same k))) (omega arith)
    (subst (λ (x : Allocation). IsSome (slice_get (values_in r x) c.number)) same h)))
in_things r m s (u ∷ ts) c (suc i) t e f h =
    let at : s + suc i ≡ suc s + i = omega arith in
    (among_append (cells_from (id_of m s u) 0 (values_in r u)) (things_cells r m (suc s) ts) c).1
    (inr (in_things r m (suc s) ts c i t e (f ∙ ap (λ (q : ℕ). id_of m q t) at) h))

things_apart : (r m s : ℕ) (ts : List Allocation) → AreDistinctCells (things_cells r m s ts)
things_apart r m s [] = tt
things_apart r m s (t ∷ ts) =
    apart_append (cells_from (id_of m s t) 0 (values_in r t)) (things_cells r m (suc s) ts) (from_apart (id_of m s t) 0 (values_in r t)) (things_apart r m (suc s) ts)
    (λ c a b.
    let x = from_in (id_of m s t) 0 (values_in r t) c a in
    let y = things_in r m (suc s) ts c b in
    let p : c.thing.serial ≡ s = ap (λ (q : Id). q.serial) x.1 ∙ serial_of m s t in
    let q : c.thing.serial ≡ suc s + y.0 = ap (λ (q : Id). q.serial) y.3 ∙ serial_of m (suc s + y.0) y.1 in
    absurd (omega (arith, p, q)))

things_values : (f : CellIndex → Option Value) (r m s : ℕ) (ts : List Allocation)
    → ((i q : ℕ) (t : Allocation) (k : ℕ) (x : Value) → q ≡ s + i → slice_get ts i ≡ Some t → slice_get (values_in r t) k ≡ Some x → f (cell_at (id_of m q t) k) ≡ Some x)
    → map f (things_cells r m s ts) ≡ map Some (flat_map (values_in r) ts)
things_values f r m s [] h = refl
things_values f r m s (t ∷ ts) h =
    let first = from_values f (id_of m s t) 0 (values_in r t) (λ i k x e g.
    h 0 s t k x (omega arith) refl (subst (λ (n : ℕ). slice_get (values_in r t) n ≡ Some x) (let z : i ≡ k = omega arith in z) g)) in
    let rest = things_values f r m (suc s) ts (λ i q u k x e g v. h (suc i) q u k x (e ∙ omega arith) g v) in
    map-append f (cells_from (id_of m s t) 0 (values_in r t)) (things_cells r m (suc s) ts) ∙ (λ i. first i ++ rest i)
    ∙ sym (map-append Some (values_in r t) (flat_map (values_in r) ts))

-- ---- the cells of all processes

abbrev pub shares_cells : ℕ → ℕ → List (List Allocation) → List CellIndex
shares_cells r m [] = []
shares_cells r m (ts ∷ h) = things_cells r m 0 ts ++ shares_cells r (suc m) h

shares_in : (r m : ℕ) (h : List (List Allocation)) (c : CellIndex) → IsAmong (shares_cells r m h) c → (j : ℕ) × (ts : List Allocation) × (slice_get h j ≡ Some ts) × IsAmong (things_cells r (m + j) 0 ts) c
shares_in r m [] c n = elim n [ ]
shares_in r m (ts ∷ h) c n = ⊎_elim
    (λ a. let at : m ≡ m + 0 = omega arith in (0, ts, refl, subst (λ (q : ℕ). IsAmong (things_cells r q 0 ts) c) at a))
    (λ a.
    let k = shares_in r (suc m) h c a in
    let at : suc m + k.0 ≡ m + suc k.0 = omega arith in
    (suc k.0, k.1, k.2, subst (λ (q : ℕ). IsAmong (things_cells r q 0 k.1) c) at k.3))
    ((among_append (things_cells r m 0 ts) (shares_cells r (suc m) h) c).0 n)

in_shares : (r m : ℕ) (h : List (List Allocation)) (c : CellIndex) (j : ℕ) (ts : List Allocation) → slice_get h j ≡ Some ts → IsAmong (things_cells r (m + j) 0 ts) c → IsAmong (shares_cells r m h) c
in_shares r m [] c j ts e n = cc
in_shares r m (us ∷ h) c zero ts e n =
    let same : ts ≡ us = cc in
    let at : m + 0 ≡ m = omega arith in
    (among_append (things_cells r m 0 us) (shares_cells r (suc m) h) c).1
    (inl (subst (λ (xs : List Allocation). IsAmong (things_cells r m 0 xs) c) same (subst (λ (q : ℕ). IsAmong (things_cells r q 0 ts) c) at n)))
in_shares r m (us ∷ h) c (suc j) ts e n =
    let at : m + suc j ≡ suc m + j = omega arith in
    (among_append (things_cells r m 0 us) (shares_cells r (suc m) h) c).1
    (inr (in_shares r (suc m) h c j ts e (subst (λ (q : ℕ). IsAmong (things_cells r q 0 ts) c) at n)))

shares_apart : (r m : ℕ) (h : List (List Allocation)) → AreDistinctCells (shares_cells r m h)
shares_apart r m [] = tt
shares_apart r m (ts ∷ h) =
    apart_append (things_cells r m 0 ts) (shares_cells r (suc m) h) (things_apart r m 0 ts) (shares_apart r (suc m) h)
    (λ c a b.
    let x = things_in r m 0 ts c a in
    let k = shares_in r (suc m) h c b in
    let y = things_in r (suc m + k.0) 0 k.1 c k.3 in
    let p : c.thing.maker ≡ m = ap (λ (q : Id). q.maker) x.3 ∙ maker_of m (0 + x.0) x.1 in
    let q : c.thing.maker ≡ suc m + k.0 = ap (λ (q : Id). q.maker) y.3 ∙ maker_of (suc m + k.0) (0 + y.0) y.1 in
    absurd (omega (arith, p, q)))

shares_values : (f : CellIndex → Option Value) (r m : ℕ) (h : List (List Allocation))
    → ((j p : ℕ) (ts : List Allocation) (i : ℕ) (t : Allocation) (k : ℕ) (x : Value) → p ≡ m + j → slice_get h j ≡ Some ts → slice_get ts i ≡ Some t → slice_get (values_in r t) k ≡ Some x
    → f (cell_at (id_of p i t) k) ≡ Some x)
    → map f (shares_cells r m h) ≡ map Some (all_values_in r h)
shares_values f r m [] h = refl
shares_values f r m (ts ∷ rest) h =
    let first = things_values f r m 0 ts (λ i q t k x e g v. h 0 m ts q t k x (omega arith) refl (subst (λ (n : ℕ). slice_get ts n ≡ Some t) (let z : i ≡ q = omega arith in z) g) v) in
    let others = shares_values f r (suc m) rest (λ j p us i t k x e a b v. h (suc j) p us i t k x (e ∙ omega arith) a b v) in
    map-append f (things_cells r m 0 ts) (shares_cells r (suc m) rest) ∙ (λ i. first i ++ others i)
    ∙ sym (map-append Some (flat_map (values_in r) ts) (all_values_in r rest))

-- ---- what they hold

-- a thing with a cell in the region lies there, and has its name
named_value : (m s : ℕ) (t : Allocation) (k : ℕ) (x : Value) → slice_get (values_of t) k ≡ Some x → is_named (id_of m s t) t ≡ true
named_value m s (Object region fields) k x e = and_from (eqb m m) (eqb region region) (eq-eqb m m refl) (eq-eqb region region refl)
named_value m s (Block whole elements) k x e =
    and_from (eqb whole.block.owner whole.block.owner) (eqb whole.block.region whole.block.region) (eq-eqb whole.block.owner whole.block.owner refl) (eq-eqb whole.block.region whole.block.region refl)
named_value m s (ViewOf view) k x e = cc
named_value m s Gone k x e = cc

lies_there : (r : ℕ) (t : Allocation) (k : ℕ) (x : Value) → slice_get (values_in r t) k ≡ Some x → (allocation_region t ≡ r) × (slice_get (values_of t) k ≡ Some x)
lies_there r t k x e = by (eqb (allocation_region t) r) refl e
  where
    by : (b : Bool) → eqb (allocation_region t) r ≡ b → slice_get (if b then values_of t else []) k ≡ Some x → (allocation_region t ≡ r) × (slice_get (values_of t) k ≡ Some x)
    by true f g = (eqb-true (allocation_region t) r f, g)
    by false f g = cc

module _ (h : List (List Allocation)) (r : ℕ) where
  live_at : (j i : ℕ) (ts : List Allocation) (t : Allocation) (k : ℕ) (x : Value) → slice_get h j ≡ Some ts → slice_get ts i ≡ Some t → slice_get (values_of t) k ≡ Some x
      → live (thing_at h) (id_of j i t) ≡ Some t
  live_at j i ts t k x a b v =
      let at : thing_at h (id_of j i t).maker (id_of j i t).serial ≡ Some t =
      (λ n. thing_at h (maker_of j i t n) (serial_of j i t n)) ∙ ap (option_and_then (λ (us : List Allocation). slice_get us i)) a ∙ b in
      ap (option_and_then (named (id_of j i t))) at ∙ ap (λ (w : Bool). if w then Some t else None) (named_value j i t k x v)

  cell_held : (j i : ℕ) (ts : List Allocation) (t : Allocation) (k : ℕ) (x : Value) → slice_get h j ≡ Some ts → slice_get ts i ≡ Some t → slice_get (values_in r t) k ≡ Some x
      → value_in_cell (thing_at h) (cell_at (id_of j i t) k) ≡ Some x
  cell_held j i ts t k x a b v =
      let l = lies_there r t k x v in
      ap (option_and_then (λ (u : Allocation). slice_get (values_of u) k)) (live_at j i ts t k x a b l.1) ∙ l.1

  forth : (c : CellIndex) → IsAmong (shares_cells r 0 h) c → (c.thing.region ≡ r) × IsSome (value_in_cell (thing_at h) c)
  forth c n =
      let s = shares_in r 0 h c n in
      let y = things_in r (0 + s.0) 0 s.1 c s.3 in
      let v = has_some (slice_get (values_in r y.1) c.number) y.4 in
      let l = lies_there r y.1 c.number v.0 v.1 in
      let maker : 0 + s.0 ≡ s.0 = omega arith in
      let serial : 0 + y.0 ≡ y.0 = omega arith in
      let id : c.thing ≡ id_of s.0 y.0 y.1 = y.3 ∙ (λ k. id_of (maker k) (serial k) y.1) in
      let held = cell_held s.0 y.0 s.1 y.1 c.number v.0 s.2 y.2 v.1 in (
        ap (λ (q : Id). q.region) id ∙ named_region (id_of s.0 y.0 y.1) y.1 (named_value s.0 y.0 y.1 c.number v.0 l.1) ∙ l.0,
        ap is_some (ap (value_in_cell (thing_at h)) (one_cell c (cell_at (id_of s.0 y.0 y.1) c.number) id refl) ∙ held),
      )

  back : (c : CellIndex) → c.thing.region ≡ r → IsSome (value_in_cell (thing_at h) c) → IsAmong (shares_cells r 0 h) c
  back c e g =
      let k = held_then (thing_at h) c.thing c.number g in
      let l = live_then (thing_at h) c.thing k.0 k.1 in
      let s = share_then h c.thing.maker c.thing.serial k.0 l.0 in
      let own = named_value c.thing.maker c.thing.serial k.0 c.number k.2.0 k.2.1 in
      let id : c.thing ≡ id_of c.thing.maker c.thing.serial k.0 =
      one_name c.thing (id_of c.thing.maker c.thing.serial k.0) k.0 l.1 own (sym (maker_of c.thing.maker c.thing.serial k.0)) (sym (serial_of c.thing.maker c.thing.serial k.0)) in
      let region : allocation_region k.0 ≡ r = sym (named_region c.thing k.0 l.1) ∙ e in
      let value : slice_get (values_in r k.0) c.number ≡ Some k.2.0 =
      ap (λ (b : Bool). slice_get (if b then values_of k.0 else []) c.number) (eq-eqb (allocation_region k.0) r region) ∙ k.2.1 in
      in_shares r 0 h c c.thing.maker s.0 s.1
      (in_things r (0 + c.thing.maker) 0 s.0 c c.thing.serial k.0 s.2
      (let maker : c.thing.maker ≡ 0 + c.thing.maker = omega arith in
      let serial : c.thing.serial ≡ 0 + c.thing.serial = omega arith in
      id ∙ (λ n. id_of (maker n) (serial n) k.0)) (ap is_some value))

  pub cells_listed : ListsCells (contents h) r (all_values_in r h)
  cells_listed = record {
    cells = shares_cells r 0 h;
    once = shares_apart r 0 h;
    has = λ c. (forth c, λ g. back c g.0 g.1);
    values_are = shares_values (value_in_cell (thing_at h)) r 0 h (λ j p ts i t k x e a b v.
        cell_held p i ts t k x (subst (λ (n : ℕ). slice_get h n ≡ Some ts) (let z : j ≡ p = omega arith in z) a) b v);
  }
