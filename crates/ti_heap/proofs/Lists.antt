-- Lemmas on lists with one element changed, one added, or a prefix changed.
use Rattle.std.proofs.Common.{◌≡◌, ℕ, zero, suc, ◌≤◌, List, [], ◌∷◌, ◌++◌, map, length, set, Some, None, refl, ap, arith}
use Rattle.std.specs.List.{slice_get}
use Rattle.ti_heap.specs.Things.{changed_at}

module _ {A : Type 0} where
  pub get_changed : (n : ℕ) (f : A → A) (xs : List A) (x : A) → slice_get xs n ≡ Some x → slice_get (changed_at n f xs) n ≡ Some (f x)
  get_changed n f [] x e = cc
  get_changed zero f (y ∷ ys) x e = let same : y ≡ x = cc in ap (λ (z : A). Some (f z)) same
  get_changed (suc n) f (y ∷ ys) x e = get_changed n f ys x e

  pub get_unchanged : (n m : ℕ) (f : A → A) (xs : List A) → (m ≡ n → ⊥) → slice_get (changed_at n f xs) m ≡ slice_get xs m
  get_unchanged n m f [] h = refl
  get_unchanged zero zero f (y ∷ ys) h = absurd (h refl)
  get_unchanged zero (suc m) f (y ∷ ys) h = refl
  get_unchanged (suc n) zero f (y ∷ ys) h = refl
  get_unchanged (suc n) (suc m) f (y ∷ ys) h = get_unchanged n m f ys (λ e. h (ap suc e))

  pub length_changed : (n : ℕ) (f : A → A) (xs : List A) → length (changed_at n f xs) ≡ length xs
  length_changed n f [] = refl
  length_changed zero f (y ∷ ys) = refl
  length_changed (suc n) f (y ∷ ys) = ap suc (length_changed n f ys)

  -- a write of what a function makes of the element
  pub set_changed : (xs : List A) (n : ℕ) (f : A → A) (x : A) → slice_get xs n ≡ Some x → set xs n (f x) ≡ changed_at n f xs
  set_changed [] n f x e = cc
  set_changed (y ∷ ys) zero f x e = let same : x ≡ y = cc in ap (λ (z : A). f z ∷ ys) same
  set_changed (y ∷ ys) (suc n) f x e = ap (λ (zs : List A). y ∷ zs) (set_changed ys n f x e)

  -- a write of what stands there
  pub set_same : (xs : List A) (n : ℕ) (x : A) → slice_get xs n ≡ Some x → set xs n x ≡ xs
  set_same [] n x e = cc
  set_same (y ∷ ys) zero x e = let same : x ≡ y = cc in ap (λ (z : A). z ∷ ys) same
  set_same (y ∷ ys) (suc n) x e = ap (λ (zs : List A). y ∷ zs) (set_same ys n x e)

  pub get_last : (xs : List A) (y : A) → slice_get (xs ++ y ∷ []) (length xs) ≡ Some y
  get_last [] y = refl
  get_last (x ∷ xs) y = get_last xs y

  pub get_front : (xs : List A) (y : A) (m : ℕ) → (m ≡ length xs → ⊥) → slice_get (xs ++ y ∷ []) m ≡ slice_get xs m
  get_front [] y zero h = absurd (h refl)
  get_front [] y (suc m) h = refl
  get_front (x ∷ xs) y zero h = refl
  get_front (x ∷ xs) y (suc m) h = get_front xs y m (λ e. h (ap suc e))

  pub no_more : (xs : List A) → slice_get xs (length xs) ≡ None
  no_more [] = refl
  no_more (x ∷ xs) = no_more xs

  -- the first elements changed
  abbrev pub front_mapped : (A → A) → ℕ → List A → List A
  front_mapped f zero xs = xs
  front_mapped f (suc n) [] = []
  front_mapped f (suc n) (x ∷ xs) = f x ∷ front_mapped f n xs

  pub length_front : (f : A → A) (n : ℕ) (xs : List A) → length (front_mapped f n xs) ≡ length xs
  length_front f zero xs = refl
  length_front f (suc n) [] = refl
  length_front f (suc n) (x ∷ xs) = ap suc (length_front f n xs)

  pub front_more : (f : A → A) (n : ℕ) (xs : List A) → changed_at n f (front_mapped f n xs) ≡ front_mapped f (suc n) xs
  front_more f zero [] = refl
  front_more f zero (x ∷ xs) = refl
  front_more f (suc n) [] = refl
  front_more f (suc n) (x ∷ xs) = ap (λ (zs : List A). f x ∷ zs) (front_more f n xs)

  pub front_all : (f : A → A) (n : ℕ) (xs : List A) → length xs ≤ n → front_mapped f n xs ≡ map f xs
  front_all f zero [] h = refl
  front_all f zero (x ∷ xs) h = absurd (omega arith)
  front_all f (suc n) [] h = refl
  front_all f (suc n) (x ∷ xs) h = ap (λ (zs : List A). f x ∷ zs) (front_all f n xs (omega arith))

-- a list read through a function that the change leaves
pub map_changed : {A B : Type 0} (g : A → B) (f : A → A) (n : ℕ) (xs : List A) → ((x : A) → g (f x) ≡ g x) → map g (changed_at n f xs) ≡ map g xs
map_changed g f n [] h = refl
map_changed {A} {B} g f zero (x ∷ xs) h = ap (λ (y : B). y ∷ map g xs) (h x)
map_changed {A} {B} g f (suc n) (x ∷ xs) h = ap (λ (ys : List B). g x ∷ ys) (map_changed g f n xs h)
