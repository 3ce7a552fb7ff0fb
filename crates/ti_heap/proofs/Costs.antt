-- The total cost of a share after one of its objects changes.
use Rattle.std.proofs.Common.{◌≡◌, ℕ, ◌+◌, ◌<◌, ◌≤◌, List, [], ◌∷◌, ◌++◌, map, length, get_or, set, Option, Some, None, IsSome, IsSomeAnd, refl, sym, ap, subst, ◌∙◌, arith, sum_by, true, false}
use Rattle.std.proofs.lemmas.List.{map-set, map-append, length-map, get_or-map}
use Rattle.std.proofs.lemmas.List.Sums.{sum_by-set, sum_by_push}
use Rattle.ti_heap.specs.declared.allocation.Allocation.{Allocation}
use Rattle.ti_heap.specs.declared.allocation.Allocation.TheVariants.{Gone}
use Rattle.std.specs.List.{slice_get}
use Rattle.std.proofs.lemmas.Option.{slice_get_read, slice_get_within}
use Rattle.ti_heap.specs.Contents.{Made}
use Rattle.ti_heap.specs.Things.{made_of, allocation_cost, total_cost}

pub cost_set : (xs : List Allocation) (i : ℕ) (t y : Allocation) → i < length xs → t ≡ get_or xs i t → total_cost (set xs i y) + allocation_cost t ≡ total_cost xs + allocation_cost y
cost_set xs i t y h e =
    let costs : List Made → ℕ = sum_by (λ (m : Made). m.cost) in
    let one : get_or (map made_of xs) i (made_of t) ≡ made_of t = get_or-map made_of xs i t (made_of t) h ∙ ap made_of (sym e) in
    let s = sum_by-set (λ (m : Made). m.cost) (map made_of xs) i (made_of y) (made_of t) (omega (arith, length-map xs made_of)) in
    let f : total_cost (set xs i y) ≡ costs (set (map made_of xs) i (made_of y)) = ap costs (map-set made_of xs i y) in
    let g : (get_or (map made_of xs) i (made_of t)).cost ≡ allocation_cost t = ap (λ (m : Made). m.cost) one in
    omega arith

-- a thing costs no more than all of them
pub cost_within : (xs : List Allocation) (i : ℕ) (t : Allocation) → i < length xs → t ≡ get_or xs i t → allocation_cost t ≤ total_cost xs
cost_within xs i t h e = let c = cost_set xs i t Gone h e in omega arith

pub some_and : {A : Type 0} (o : Option A) (P : A → Type 0) → IsSomeAnd o P → (x : A) × (o ≡ Some x) × P x
some_and None P h = absurd h
some_and (Some x) P h = (x, refl, h)

pub and_some : {A : Type 0} (o : Option A) (P : A → Type 0) (x : A) → o ≡ Some x → P x → IsSomeAnd o P
and_some None P x e h = cc
and_some {A} (Some y) P x e h = let same : x ≡ y = cc in subst P same h

pub has_some : {A : Type 0} (o : Option A) → IsSome o → (x : A) × (o ≡ Some x)
has_some None h = absurd (let c : false ≡ true = h in cc)
has_some (Some x) h = (x, refl)

-- what is read where something stands
pub read_there : {A : Type 0} (xs : List A) (i : ℕ) (x y : A) → slice_get xs i ≡ Some x → y ≡ get_or xs i y → slice_get xs i ≡ Some y
read_there xs i x y e f = slice_get_read xs (length xs) i y refl (slice_get_within xs i x e) f

-- one more thing
pub total_more : (xs : List Allocation) (t : Allocation) → total_cost (xs ++ t ∷ []) ≡ total_cost xs + allocation_cost t
total_more xs t =
    ap (sum_by (λ (m : Made). m.cost)) (map-append made_of xs (t ∷ [])) ∙ sum_by_push (λ (m : Made). m.cost) (map made_of xs) (made_of t)
