-- Proves which variables leave at the end of a scope; the others keep the order of their declarations.
use Rattle.std.proofs.Common.{◌≡◌, ◌∙◌, ap, sym, refl, List, [], ◌∷◌, ◌++◌, map, reverse, filter, not, Bool, true, false, cond}
use Rattle.std.proofs.lemmas.List.{reverse-append, append-nil}
use Rattle.std.proofs.lemmas.List.Elements.{filter-append}
use Rattle.ti_lang.specs.Program.Types.{VariableUse}
use Rattle.ti_lang.specs.Program.Views.{variable_of}
use Rattle.ti_lang.specs.Meaning.Processes.{Variable}
use Rattle.ti_lang.specs.Meaning.Scoping.{without_variables}
use Rattle.ti_eval.specs.declared.frame.Slot.{Slot}
use Rattle.ti_eval.specs.Frames.{slot_of, slots_of}
use Rattle.ti_moves.specs.Scopes.{is_among}

-- the variable of a slot stays
abbrev pub stays : List VariableUse → Slot → Bool
stays xs s = not (is_among xs (variable_of s.variable))

reversed_by : (b : Bool) (x : Slot) (xs : List Slot) → reverse xs ++ cond b (x ∷ []) [] ≡ reverse (cond b (x ∷ xs) xs)
reversed_by true x xs = sym (reverse-append (x ∷ []) xs)
reversed_by false x xs = append-nil (reverse xs)

filter_reversed : (p : Slot → Bool) (xs : List Slot) → filter p (reverse xs) ≡ reverse (filter p xs)
filter_reversed p [] = refl
filter_reversed p (x ∷ xs) =
    ap (filter p) (reverse-append (x ∷ []) xs)
    ∙ filter-append p (reverse xs) (x ∷ [])
    ∙ ap (λ ys. ys ++ filter p (x ∷ [])) (filter_reversed p xs)
    ∙ reversed_by (p x) x (filter p xs)

by_test : (b : Bool) (x : Slot) (xs : List Slot) (ws : List Variable) → map slot_of xs ≡ ws → map slot_of (cond b (x ∷ xs) xs) ≡ cond b (slot_of x ∷ ws) ws
by_test true x xs ws e = ap (λ ys. slot_of x ∷ ys) e
by_test false x xs ws e = e

filtered : (xs : List VariableUse) (slots : List Slot) → map slot_of (filter (stays xs) slots) ≡ without_variables xs (map slot_of slots)
filtered xs [] = refl
filtered xs (s ∷ slots) = by_test (stays xs s) s _ _ (filtered xs slots)

-- those that stay are what is left without the others
pub slots_left : (xs : List VariableUse) (slots : List Slot) → slots_of (filter (stays xs) slots) ≡ without_variables xs (slots_of slots)
slots_left xs slots = ap (map slot_of) (sym (filter_reversed (stays xs) slots)) ∙ filtered xs (reverse slots)
