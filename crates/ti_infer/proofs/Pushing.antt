-- Appending to lists, in the forms in which the code does it.
use Rattle.std.proofs.Common.{◌≡◌, ℕ, ◌+◌, ◌<◌, ◌≤◌, List, [], ◌∷◌, ◌++◌, drop, length, get_or, refl, ap, sym, ◌∙◌, add-one, append_assoc, append-nil, Result, OnOk}
use Rattle.std.proofs.Math.Seq.{drop-cons}
use Rattle.std.proofs.lemmas.Result.{on_ok_weaker}
use Rattle.std.proofs.lemmas.List.{drop_all}

pub drop_next : {A : Type 0} (xs : List A) (i : ℕ) (x : A) → i < length xs → x ≡ get_or xs i x → drop i xs ≡ x ∷ drop (i + 1) xs
drop_next xs i x lt here = drop-cons xs i x lt ∙ ap (λ j. get_or xs i x ∷ drop j xs) (sym (add-one i)) ∙ ap (λ z. z ∷ drop (i + 1) xs) (sym here)

-- one more of a list, whose part is pushed
pub pushed_step : {A B : Type 0} (all : List A → List B) (one : A → List B) → ((y : A) (ys : List A) → all (y ∷ ys) ≡ one y ++ all ys) → (xs : List A) (i : ℕ) (x : A) (old new whole : List B)
    → i < length xs → x ≡ get_or xs i x → old ++ all (drop i xs) ≡ whole → new ≡ old ++ one x → new ++ all (drop (i + 1) xs) ≡ whole
pushed_step all one cons xs i x old new whole lt here is more =
    ap (λ z. z ++ all (drop (i + 1) xs)) more ∙ append_assoc old (one x) (all (drop (i + 1) xs)) ∙ ap (λ z. old ++ z) (sym (ap all (drop_next xs i x lt here) ∙ cons x (drop (i + 1) xs))) ∙ is

-- none is left
pub pushed_end : {A B : Type 0} (all : List A → List B) → all [] ≡ [] → (xs : List A) (i : ℕ) (old whole : List B) → length xs ≤ i → old ++ all (drop i xs) ≡ whole → old ≡ whole
pushed_end all nil xs i old whole le is = sym (append-nil old) ∙ ap (λ z. old ++ z) (sym (ap all (drop_all i xs le) ∙ nil)) ∙ is

-- what is pushed, said otherwise
pub pushed_as : {A R E : Type 0} (r : Result R E) (old new xs ys : List A) → xs ≡ ys → OnOk r (new ≡ old ++ xs) → OnOk r (new ≡ old ++ ys)
pushed_as r old new xs ys e h = on_ok_weaker r (λ k. k ∙ ap (λ z. old ++ z) e) h

-- three parts that are pushed one after the other
pub pushed_three : {A R E : Type 0} (r : Result R E) (old one two new xs ys zs all : List A) → one ≡ old ++ xs → two ≡ one ++ ys → xs
    ++ (ys ++ zs) ≡ all → OnOk r (new ≡ two ++ zs) → OnOk r (new ≡ old ++ all)
pushed_three r old one two new xs ys zs all f g e h =
    on_ok_weaker r (λ k. k ∙ ap (λ z. z ++ zs) (g ∙ ap (λ z. z ++ ys) f) ∙ append_assoc (old ++ xs) ys zs ∙ append_assoc old xs (ys ++ zs) ∙ ap (λ z. old ++ z) e) h

pub ruleset pushing = (append_assoc, append-nil)
