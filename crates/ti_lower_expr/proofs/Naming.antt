-- Proves that the search in the table of slots finds the newest slot that a variable denotes, and whether there is a `this`.
use Rattle.std.proofs.Common.{◌≡◌, ◌∙◌, ap, refl, sym, ℕ, ◌+◌, ◌-◌, ◌<◌, ◌≤◌, List, [], ◌∷◌, ◌++◌, take, drop, map, reverse, length, get_or, zero, suc, Bool, true, false, if◌then◌else◌, ◌==◌, ◌&&◌, Option, Some, arith}
use Rattle.std.proofs.Math.Seq.{take-suc}
use Rattle.std.proofs.lemmas.List.{reverse-append, length-map, length-reverse, length-take-le, length-drop, take-append-drop, map-append, drop_at, take_all}
use Rattle.std.proofs.lemmas.Bool.Decides.{nat_tests}
use Rattle.ti_lang.specs.Program.Types.{VariableUse, Declaration, Typed, Foreach}
use Rattle.ti_lower_expr.specs.declared.slots.SlotName.{SlotName}
use Rattle.ti_lower_expr.specs.Slots as name
use Rattle.ti_lower_expr.specs.Slots.{Name, is_meant, find_by, find_slot, has_this}
use Rattle.ti_lower_expr.specs.declared.slots.SlotName.TheVariants as slot
use Rattle.ti_lower_expr.specs.Noted.{variable_number}
use Rattle.ti_lower_expr.specs.Views.{slot_name_of, slot_names_of}

-- the newest of so many
newest : (xs : List SlotName) (n : ℕ) (d : SlotName) → n < length xs → slot_names_of (take (suc n) xs) ≡ slot_name_of (get_or xs n d) ∷ slot_names_of (take n xs)
newest xs n d h = rw (take-suc xs n d h, reverse-append) refl

pub names_length : (xs : List SlotName) → length (slot_names_of xs) ≡ length xs
names_length xs = length-map (reverse xs) slot_name_of ∙ length-reverse xs

-- ---- a variable

meant_first : (b : Bool) (k : ℕ) (rest : Option ℕ) → b ≡ true → (if b then Some k else rest) ≡ Some k
meant_first b k rest e = rw e refl

meant_later : (b : Bool) (k : ℕ) (rest : Option ℕ) → b ≡ false → (if b then Some k else rest) ≡ rest
meant_later b k rest e = rw e refl

length_taken : (xs : List SlotName) (m : ℕ) → m < length xs → length (slot_names_of (take m xs)) ≡ m
length_taken xs m h = names_length (take m xs) ∙ length-take-le m xs (omega arith)

pub found_here : (x : VariableUse) (xs : List SlotName) (n m : ℕ) (d : SlotName) → n ≡ suc m → m < length xs → is_meant x.declared x (slot_name_of (get_or xs m d)) ≡ true
    → find_slot x (slot_names_of xs) ≡ find_slot x (slot_names_of (take n xs)) → find_slot x (slot_names_of xs) ≡ Some m
found_here x xs n m d e l is same =
    same ∙ ap (λ k. find_slot x (slot_names_of (take k xs))) e ∙ ap (find_slot x) (newest xs m d l)
    ∙ meant_first (is_meant x.declared x (slot_name_of (get_or xs m d))) (length (slot_names_of (take m xs))) (find_slot x (slot_names_of (take m xs))) is ∙ ap Some (length_taken xs m l)

pub not_here : (x : VariableUse) (xs : List SlotName) (n m : ℕ) (d : SlotName) → n ≡ suc m → m < length xs → is_meant x.declared x (slot_name_of (get_or xs m d)) ≡ false
    → find_slot x (slot_names_of xs) ≡ find_slot x (slot_names_of (take n xs)) → find_slot x (slot_names_of xs) ≡ find_slot x (slot_names_of (take m xs))
not_here x xs n m d e l is same =
    same ∙ ap (λ k. find_slot x (slot_names_of (take k xs))) e ∙ ap (find_slot x) (newest xs m d l)
    ∙ meant_later (is_meant x.declared x (slot_name_of (get_or xs m d))) (length (slot_names_of (take m xs))) (find_slot x (slot_names_of (take m xs))) is

-- ---- where the search begins

pub past_end : (xs : List ℕ) (n : ℕ) → length xs ≤ n → get_or xs n 0 ≡ 0
past_end [] n h = refl
past_end (x ∷ xs) zero h = absurd (omega (arith, h))
past_end (x ∷ xs) (suc n) h = past_end xs n (omega (arith, h))

not_same : (m n : ℕ) (b : Bool) → (m ≡ n → ⊥) → ((m == n) && b) ≡ false
not_same m n b h = let t : (m == n) ≡ false = grind (arith, nat_tests, h) in rw t refl

-- a slot for another number isn't meant
another : (x : VariableUse) (d : Declaration) (n : SlotName) → (variable_number n ≡ Some x.number → ⊥) → is_meant d x (slot_name_of n) ≡ false
another x (Typed single type) slot.This h = refl
another x (Typed single type) (slot.Of number s ty) h = not_same x.number number _ (λ e. h (ap Some (sym e)))
another x (Typed single type) (slot.Point number) h = refl
another x (Typed single type) slot.Hidden h = refl
another x Foreach slot.This h = refl
another x Foreach (slot.Of number s ty) h = refl
another x Foreach (slot.Point number) h = grind (arith, nat_tests, λ (e : number ≡ x.number). h (ap Some e))
another x Foreach slot.Hidden h = refl

-- so the search may begin at the first slot behind which none is for the number
pub search_begins : (x : VariableUse) (xs : List SlotName) (s more : ℕ) → ((k : ℕ) → s ≤ k → k < length xs → variable_number (get_or xs k slot.Hidden) ≡ Some x.number → ⊥)
    → s + more ≤ length xs → find_slot x (slot_names_of (take (s + more) xs)) ≡ find_slot x (slot_names_of (take s xs))
search_begins x xs s zero none h =
    let e : s + zero ≡ s = omega arith in
    ap (λ k. find_slot x (slot_names_of (take k xs))) e
search_begins x xs s (suc more) none h =
    let e : s + suc more ≡ suc (s + more) = omega arith in
    let l : s + more < length xs = omega (arith, h) in
    ap (λ k. find_slot x (slot_names_of (take k xs))) e ∙ ap (find_slot x) (newest xs (s + more) slot.Hidden l)
    ∙ meant_later (is_meant x.declared x (slot_name_of (get_or xs (s + more) slot.Hidden))) (length (slot_names_of (take (s + more) xs))) (find_slot x (slot_names_of (take (s + more) xs)))
    (another x x.declared (get_or xs (s + more) slot.Hidden) (none (s + more) (omega arith) l))
    ∙ search_begins x xs s more none (omega (arith, h))

pub search_from : (x : VariableUse) (xs : List SlotName) (s : ℕ) → ((k : ℕ) → s ≤ k → k < length xs → variable_number (get_or xs k slot.Hidden) ≡ Some x.number → ⊥)
    → s ≤ length xs → find_slot x (slot_names_of xs) ≡ find_slot x (slot_names_of (take s xs))
search_from x xs s none h =
    let all : s + (length xs - s) ≡ length xs = omega (arith, h) in
    ap (λ ys. find_slot x (slot_names_of ys)) (sym (take_all (length xs) xs (omega arith)))
    ∙ ap (λ k. find_slot x (slot_names_of (take k xs))) (sym all) ∙ search_begins x xs s (length xs - s) none (omega (arith, h))

-- ---- `this`

this_or : (n : Name) (ns : List Name) → has_this (n ∷ ns) ≡ (if has_this (n ∷ []) then true else has_this ns)
this_or name.This ns = refl
this_or (name.Of x) ns = refl
this_or (name.Point k) ns = refl
this_or name.Hidden ns = refl

this_more : (ms ns : List Name) → has_this ns ≡ true → has_this (ms ++ ns) ≡ true
this_more [] ns h = h
this_more (name.This ∷ ms) ns h = refl
this_more (name.Of x ∷ ms) ns h = this_more ms ns h
this_more (name.Point k ∷ ms) ns h = this_more ms ns h
this_more (name.Hidden ∷ ms) ns h = this_more ms ns h

names_split : (xs : List SlotName) (n : ℕ) → slot_names_of xs ≡ slot_names_of (drop n xs) ++ slot_names_of (take n xs)
names_split xs n = ap slot_names_of (sym (take-append-drop n xs)) ∙ ap (map slot_name_of) (reverse-append (take n xs) (drop n xs)) ∙ map-append slot_name_of (reverse (drop n xs)) (reverse (take n xs))

this_next : (xs : List SlotName) (i : ℕ) (d : SlotName) → i < length xs
    → has_this (slot_names_of (take (suc i) xs)) ≡ (if has_this (slot_name_of (get_or xs i d) ∷ []) then true else has_this (slot_names_of (take i xs)))
this_next xs i d l = ap has_this (newest xs i d l) ∙ this_or (slot_name_of (get_or xs i d)) (slot_names_of (take i xs))

pub this_here : (xs : List SlotName) (i : ℕ) (d : SlotName) → i < length xs → has_this (slot_name_of (get_or xs i d) ∷ []) ≡ true → has_this (slot_names_of xs) ≡ true
this_here xs i d l is =
    ap has_this (names_split xs (suc i))
    ∙ this_more (slot_names_of (drop (suc i) xs)) (slot_names_of (take (suc i) xs)) (this_next xs i d l ∙ ap (λ b. if b then true else has_this (slot_names_of (take i xs))) is)

-- ---- fewer slots

pub kept : (xs : List SlotName) (n : ℕ) → slot_names_of (take n xs) ≡ drop (length (slot_names_of xs) - n) (slot_names_of xs)
kept xs n =
    let many : length (slot_names_of (drop n xs)) ≡ length (slot_names_of xs) - n =
    names_length (drop n xs) ∙ length-drop n xs ∙ ap (λ k. k - n) (sym (names_length xs)) in
    sym (ap (drop (length (slot_names_of xs) - n)) (names_split xs n) ∙ drop_at (slot_names_of (drop n xs)) (slot_names_of (take n xs)) (length (slot_names_of xs) - n) many)
