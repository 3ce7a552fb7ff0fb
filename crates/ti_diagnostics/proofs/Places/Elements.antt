-- What holds of each element of a list.
use Rattle.std.proofs.Common.{ℕ, zero, suc, Bool, true, false, if◌then◌else◌, List, [], ◌∷◌, ◌++◌}
use Rattle.std.proofs.Common.{flat_map, slice_get}
use Rattle.std.specs.List.{AllByRecursion, Contains}
use Rattle.std.specs.Option.{option_map_or}
use Rattle.std.proofs.lemmas.List.Elements.{All-from_recursion, All-contains}

-- each element of the list satisfies the predicate
pub data HoldsOfEach {A : Type 0} (P : A → Type 0) : List A → Type 0 where
  nil : HoldsOfEach P []
  cons : {x : A} {xs : List A} → P x → HoldsOfEach P xs → HoldsOfEach P (x ∷ xs)

pub both : {A : Type 0} {P : A → Type 0} {xs ys : List A} → HoldsOfEach P xs → HoldsOfEach P ys
    → HoldsOfEach P (xs ++ ys)
both nil g = g
both (cons h f) g = cons h (both f g)

-- of what a function gives for each element
pub each_of : {A B : Type 0} {P : A → Type 0} {Q : B → Type 0} {xs : List A} (f : A → List B)
    → HoldsOfEach P xs
    → ((x : A) → P x → HoldsOfEach Q (f x))
    → HoldsOfEach Q (flat_map f xs)
each_of f nil gives = nil
each_of f (cons {x = x} h rest) gives = both (gives x h) (each_of f rest gives)

-- of what a function gives for the element of this number, if there is one
pub found : {A B : Type 0} {P : A → Type 0} {Q : B → Type 0} {xs : List A} (f : A → List B) (k : ℕ)
    → HoldsOfEach P xs
    → ((x : A) → P x → HoldsOfEach Q (f x))
    → HoldsOfEach Q (option_map_or f (slice_get xs k) [])
found f k nil gives = nil
found f zero (cons {x = x} h rest) gives = gives x h
found f (suc k) (cons h rest) gives = found f k rest gives

-- of one list or the other
pub either : {A : Type 0} {P : A → Type 0} {xs ys : List A} (b : Bool) → HoldsOfEach P xs
    → HoldsOfEach P ys
    → HoldsOfEach P (if b then xs else ys)
either true f g = f
either false f g = g

recursion_of : {A : Type 0} (P : A → Type 0) (xs : List A) → HoldsOfEach P xs → AllByRecursion P xs
recursion_of P xs nil = tt
recursion_of P xs (cons h rest) = (h, recursion_of P _ rest)

-- of one that is among them
pub contained : {A : Type 0} (P : A → Type 0) (xs : List A) (x : A) → HoldsOfEach P xs
    → Contains xs x → P x
contained P xs x each among =
    All-contains P xs x (All-from_recursion P xs (recursion_of P xs each)) among
