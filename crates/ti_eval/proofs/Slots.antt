-- Proves that the search in the code finds the newest variable in scope, and that an assignment changes it.
use Rattle.std.proofs.Common.{◌≡◌, ◌∙◌, ap, refl, ℕ, ◌+◌, ◌<◌, List, [], ◌∷◌, ◌++◌, take, map, reverse, length, get_or, add-one, zero, suc, drop, set, sym, Bool, true, if◌then◌else◌, arith}
use Rattle.std.proofs.lemmas.List.{take-append-drop, drop-set-lt, map-append}
use Rattle.std.proofs.Math.Seq.{take-suc-set}
use Rattle.ti_lang.specs.Meaning.Held as holding
use Rattle.ti_lang.specs.Program.Types.{VariableUse}
use Rattle.ti_lang.specs.Meaning.Processes.{Variable}
use Rattle.ti_lang.specs.Meaning.Scoping.{same_variable, with_changed}
use Rattle.std.proofs.lemmas.List.{reverse-append}
use Rattle.std.proofs.Math.Seq.{take-suc}
use Rattle.ti_eval.specs.declared.frame.Slot.{Slot}
use Rattle.ti_eval.specs.Frames.{slot_of, slots_of}

-- the newest of so many
pub newest : (xs : List Slot) (n : ℕ) (d : Slot) → n < length xs → slots_of (take (n + 1) xs) ≡ slot_of (get_or xs n d) ∷ slots_of (take n xs)
newest xs n d h = rw (add-one, take-suc xs n d h, reverse-append) refl

newest_suc : (xs : List Slot) (n : ℕ) (d : Slot) → n < length xs → slots_of (take (suc n) xs) ≡ slot_of (get_or xs n d) ∷ slots_of (take n xs)
newest_suc xs n d h = rw (take-suc xs n d h, reverse-append) refl

pub one_more : (xs : List Slot) (x : Slot) → slots_of (xs ++ x ∷ []) ≡ slot_of x ∷ slots_of xs
one_more xs x = rw (reverse-append) refl

slots_append : (xs ys : List Slot) → slots_of (xs ++ ys) ≡ slots_of ys ++ slots_of xs
slots_append xs ys = ap (map slot_of) (reverse-append xs ys) ∙ map-append slot_of (reverse ys) (reverse xs)

-- one of them is another
slots_set : (xs : List Slot) (m : ℕ) (s : Slot) → m < length xs → slots_of (set xs m s) ≡ slots_of (drop (suc m) xs) ++ (slot_of s ∷ slots_of (take m xs))
slots_set xs m s h =
    ap slots_of (sym (take-append-drop (suc m) (set xs m s)))
    ∙ slots_append (take (suc m) (set xs m s)) (drop (suc m) (set xs m s))
    ∙ rw (drop-set-lt (suc m) xs m s (omega arith), take-suc-set xs m s h, one_more (take m xs) s) refl

found_first : (b : Bool) (w : Variable) (h : holding.Held) (ws more : List Variable) → b ≡ true → (if b then record w { held = h } ∷ ws else more) ≡ record w { held = h } ∷ ws
found_first b w h ws more e = rw e refl

-- the newest one that is the variable holds something else
pub changed_at : (xs : List Slot) (m n : ℕ) (d s : Slot) (x : VariableUse) (h : holding.Held) → n ≡ suc m → m < length xs
    → same_variable x (slot_of (get_or xs m d)).named ≡ true → slot_of s ≡ record (slot_of (get_or xs m d)) { held = h }
    → with_changed x h (slots_of xs) ≡ slots_of (drop n xs) ++ with_changed x h (slots_of (take n xs)) → slots_of (set xs m s) ≡ with_changed x h (slots_of xs)
changed_at xs m n d s x h e l same is steps =
    let g : Variable = slot_of (get_or xs m d) in
    let t : slots_of (take n xs) ≡ g ∷ slots_of (take m xs) = rw e (newest_suc xs m d l) in
    let a : slots_of (set xs m s) ≡ slots_of (drop (suc m) xs) ++ (record g { held = h } ∷ slots_of (take m xs)) =
    slots_set xs m s l ∙ ap (λ w. slots_of (drop (suc m) xs) ++ (w ∷ slots_of (take m xs))) is in
    let b : with_changed x h (slots_of (take n xs)) ≡ record g { held = h } ∷ slots_of (take m xs) =
    ap (with_changed x h) t ∙ found_first (same_variable x g.named) g h (slots_of (take m xs)) _ same in
    let k : slots_of (drop n xs) ++ with_changed x h (slots_of (take n xs)) ≡ slots_of (drop (suc m) xs) ++ (record g { held = h } ∷ slots_of (take m xs)) =
    ap (λ j. slots_of (drop j xs) ++ with_changed x h (slots_of (take n xs))) e ∙ ap (λ ws. slots_of (drop (suc m) xs) ++ ws) b in
    a ∙ sym (steps ∙ k)

pub same_default : (xs : List Slot) (m : ℕ) (a b : Slot) → m < length xs → get_or xs m a ≡ get_or xs m b
same_default [] m a b h = absurd (omega arith)
same_default (x ∷ xs) zero a b h = refl
same_default (x ∷ xs) (suc m) a b h = same_default xs m a b (omega arith)
