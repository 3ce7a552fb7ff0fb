-- Variables that are found among those of a frame.
use Rattle.std.proofs.Common.{◌≡◌, ◌==◌, Bool, true, false, not, ◌||◌, ◌⊎◌, inl, inr, if◌then◌else◌, List, [], ◌∷◌, refl, ap, ap₂, sym, ◌∙◌, eqb-true}
use Rattle.std.specs.List.{list_any}
use Rattle.ti_lang.specs.Program.Types.{Declaration, Typed, Foreach, VariableUse}
use Rattle.ti_lang.specs.Typing.Kinds.{same_truth}
use Rattle.ti_lang.specs.Meaning.Held.{Held}
use Rattle.ti_lang.specs.Meaning.Processes.{Variable}
use Rattle.ti_lang.specs.Meaning.Scoping.{same_declaration, same_variable, with_new, with_changed, without_variables}
use Rattle.ti_align.proofs.Runs.Vars.{true_false, and_left, and_right, or_left, or_right}
use Rattle.ti_align.proofs.RunTypes.Operating.{type_same, or_either}
use Rattle.ti_align.specs.Scoped.{Names, is_among}
use Rattle.ti_align.proofs.Scope.Scoped.{is_one, with_all, Fresh}

-- all names are found there
abbrev pub Holds : Names → List Variable → Type 0
Holds names vs = (v : VariableUse) → names v ≡ true → is_among v vs ≡ true

-- all of the first names are among the second
abbrev pub Among : Names → Names → Type 0
Among names others = (v : VariableUse) → names v ≡ true → others v ≡ true

-- none of the names is one of these variables
abbrev pub Apart : Names → List VariableUse → Type 0
Apart names ds = (v : VariableUse) → names v ≡ true → list_any (λ d. same_variable d v) ds ≡ false

-- ---- the same variable

truth_is : (a b : Bool) → same_truth a b ≡ true → a ≡ b
truth_is true true h = refl
truth_is true false h = absurd (true_false (sym h))
truth_is false true h = absurd (true_false (sym h))
truth_is false false h = refl

declaration_is : (d c : Declaration) → same_declaration d c ≡ true → d ≡ c
declaration_is (Typed s x) (Typed r y) h = ap₂ Typed (truth_is s r (and_left (same_truth s r) _ h)) (type_same x y (and_right (same_truth s r) _ h))
declaration_is Foreach Foreach h = refl
declaration_is (Typed s x) Foreach h = absurd (true_false (sym h))
declaration_is Foreach (Typed r y) h = absurd (true_false (sym h))

pub variable_is : (x y : VariableUse) → same_variable x y ≡ true → x ≡ y
variable_is x y h =
    let number : x.number ≡ y.number = eqb-true x.number y.number (and_left (x.number == y.number) _ h) in
    let declared : x.declared ≡ y.declared = declaration_is x.declared y.declared (and_right (x.number == y.number) _ h) in
    ap₂ (λ n d. record { number = n; declared = d }) number declared

-- ---- what is found stays so

pub holds_new : (names : Names) (d : VariableUse) (h : Held) (vs : List Variable) → Holds names vs → Holds (with_all (d ∷ []) names) (with_new d h vs)
holds_new names d h vs k v z = by (or_either (same_variable v d || false) (names v) z)
  where
    by : ((same_variable v d || false) ≡ true) ⊎ (names v ≡ true) → (same_variable v d || is_among v vs) ≡ true
    by (inl x) = or_left (same_variable v d) _ (one (same_variable v d) x)
      where
        one : (b : Bool) → (b || false) ≡ true → b ≡ true
        one true h = refl
        one false h = h
    by (inr x) = or_right (same_variable v d) _ (k v x)

pub found_changed : (v x : VariableUse) (h : Held) (vs : List Variable) → is_among v vs ≡ true → is_among v (with_changed x h vs) ≡ true
found_changed v x h [] k = k
found_changed v x h (w ∷ ws) k = by (found_changed v x h ws) (same_variable x w.named) (or_either (same_variable v w.named) (is_among v ws) k)
  where
    by : (is_among v ws ≡ true → is_among v (with_changed x h ws) ≡ true) → (b : Bool) → (same_variable v w.named ≡ true) ⊎ (is_among v ws ≡ true)
        → is_among v (if b then record w { held = h } ∷ ws else w ∷ with_changed x h ws) ≡ true
    by f true (inl i) = or_left _ _ i
    by f true (inr i) = or_right (same_variable v w.named) _ i
    by f false (inl i) = or_left _ _ i
    by f false (inr i) = or_right (same_variable v w.named) _ (f i)

pub holds_changed : (names : Names) (x : VariableUse) (h : Held) (vs : List Variable) → Holds names vs → Holds names (with_changed x h vs)
holds_changed names x h vs k v z = found_changed v x h vs (k v z)

pub found_without : (v : VariableUse) (ds : List VariableUse) (vs : List Variable) → list_any (λ d. same_variable d v) ds ≡ false → is_among v vs ≡ true → is_among v (without_variables ds vs) ≡ true
found_without v ds [] a k = k
found_without v ds (w ∷ ws) a k = by (found_without v ds ws a) (list_any (λ d. same_variable d w.named) ds) refl (or_either (same_variable v w.named) (is_among v ws) k)
  where
    by : (is_among v ws ≡ true → is_among v (without_variables ds ws) ≡ true) → (b : Bool) → list_any (λ d. same_variable d w.named) ds ≡ b
        → (same_variable v w.named ≡ true) ⊎ (is_among v ws ≡ true) → is_among v (if not b then w ∷ without_variables ds ws else without_variables ds ws) ≡ true
    by f false z (inl i) = or_left _ _ i
    by f false z (inr i) = or_right (same_variable v w.named) _ (f i)
    by f true z (inl i) = absurd (true_false (sym z ∙ sym (ap (λ x. list_any (λ d. same_variable d x) ds) (variable_is v w.named i)) ∙ a))
    by f true z (inr i) = f i

pub holds_without : (names : Names) (ds : List VariableUse) (vs : List Variable) → Apart names ds → Holds names vs → Holds names (without_variables ds vs)
holds_without names ds vs a k v z = found_without v ds vs (a v z) (k v z)

pub holds_some : (names others : Names) (vs : List Variable) → Among names others → Holds others vs → Holds names vs
holds_some names others vs a k v z = k v (a v z)

-- what is fresh is no name
pub fresh_apart : (names : Names) (ds : List VariableUse) → Fresh names ds → Apart names ds
fresh_apart names [] f v z = refl
fresh_apart names (d ∷ ds) f v z = by (fresh_apart names ds f.1 v z) (same_variable d v) refl
  where
    by : list_any (λ d. same_variable d v) ds ≡ false → (b : Bool) → same_variable d v ≡ b → (b || list_any (λ d. same_variable d v) ds) ≡ false
    by k true i = absurd (true_false (sym z ∙ sym (ap names (variable_is d v i)) ∙ f.0))
    by k false i = k

-- more names
pub among_with : (names : Names) (ds : List VariableUse) → Among names (with_all ds names)
among_with names ds v z = or_right (is_one ds v) _ z
