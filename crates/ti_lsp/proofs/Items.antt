-- The items of a JSON array, one after the other.
use Rattle.std.proofs.Common.{◌≡◌, ℕ, List, [], ◌∷◌, ◌++◌, map, Option, None, Some, option_map, refl, sym, ap, ◌∙◌, append_assoc, append-nil, ap₂, ◌<◌, ◌+◌, length, take, get_or}
use Rattle.std.proofs.lemmas.List.{take_more, map-append}
use Rattle.serde_json.specs.View.{view}
use Rattle.serde_json.specs.declared.value.Value.{Value}
use Rattle.serde_json.specs.Data.{Data, Items, item, no_items}
use Rattle.ti_lsp.specs.Messages.{ChangeView, and_changes, changes_of, change_of}

-- the changes so far, of a list of which these items are left
pub record Decodes (all left : Items) (changes : List ChangeView) : Type 0 where
  pub whole : option_map (λ (rest : List ChangeView). changes ++ rest) (changes_of left) ≡ changes_of all

same_rest : (o : Option (List ChangeView)) → option_map (λ (rest : List ChangeView). [] ++ rest) o ≡ o
same_rest None = refl
same_rest (Some x) = refl

pub first_change : (all : Items) → Decodes all all []
first_change all = record { whole = same_rest (changes_of all) }

pub one_change : (all left : Items) (d : Data) (c : ChangeView) (changes : List ChangeView) → Decodes all (item d left) changes → change_of d ≡ Some c
    → Decodes all left (changes ++ c ∷ [])
one_change all left d c changes before is = record { whole = shape (changes_of left) ∙ ap (λ (o : Option ChangeView). option_map (λ (rest : List ChangeView). changes ++ rest) (and_changes o (changes_of left))) (sym is) ∙ before.whole }
  where
    shape : (o : Option (List ChangeView)) → option_map (λ (rest : List ChangeView). (changes ++ c ∷ []) ++ rest) o
        ≡ option_map (λ (rest : List ChangeView). changes ++ rest) (and_changes (Some c) o)
    shape None = refl
    shape (Some x) = ap Some (append_assoc changes (c ∷ []) x)

pub no_change : (all left : Items) (d : Data) (changes : List ChangeView) → Decodes all (item d left) changes → change_of d ≡ None → None ≡ changes_of all
no_change all left d changes before none =
    ap (λ (o : Option ChangeView). option_map (λ (rest : List ChangeView). changes ++ rest) (and_changes o (changes_of left))) (sym none) ∙ before.whole

pub all_changes : (all : Items) (changes : List ChangeView) → Decodes all no_items changes → Some changes ≡ changes_of all
all_changes all changes before = ap Some (sym (append-nil changes)) ∙ before.whole

-- one more value, where the values so far are those of the first elements
pub one_value : {A : Type 0} (f : A → Data) (xs : List A) (i : ℕ) (x : A) (values : List Value) (v : Value) (longer : List Value) → i < length xs
    → x ≡ get_or xs i x → map view values ≡ map f (take i xs) → view v ≡ f x → longer ≡ values ++ v ∷ [] → map view longer ≡ map f (take (i + 1) xs)
one_value f xs i x values v longer below is so_far same long =
    ap (map view) long ∙ map-append view values (v ∷ []) ∙ ap₂ (λ (a b : List Data). a ++ b) so_far (ap (λ (d : Data). d ∷ []) (same ∙ ap f is))
    ∙ sym (map-append f (take i xs) (get_or xs i x ∷ [])) ∙ ap (map f) (sym (take_more xs i x below))
