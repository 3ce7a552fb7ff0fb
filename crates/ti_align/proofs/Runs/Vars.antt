-- Variables and the single ones among them.
use Rattle.std.proofs.Common.{◌≡◌, ◌==◌, Bool, true, false, ◌&&◌, ◌||◌, List, [], ◌∷◌, ◌++◌, if◌then◌else◌, refl, ap, ap₂, sym, ◌∙◌}
use Rattle.std.specs.List.{list_any}
use Rattle.ti_lang.specs.Program.Types.{Declaration, Typed, Foreach, VariableUse}
use Rattle.ti_lang.specs.Typing.Kinds.{same_truth}
use Rattle.ti_lang.specs.Meaning.Held.{Held}
use Rattle.ti_lang.specs.Meaning.Processes.{Variable}
use Rattle.ti_lang.specs.Meaning.Scoping.{same_declaration, same_variable, find_variable, with_changed, without_variables}
use Rattle.ti_align.specs.SinglePart.{is_single_declared, singles}

pub true_false : true ≡ false → ⊥
true_false e = cc

pub or_false : (a b : Bool) → (a || b) ≡ false → (a ≡ false) × (b ≡ false)
or_false true b h = absurd (true_false h)
or_false false b h = (refl, h)

pub or_left : (a b : Bool) → a ≡ true → (a || b) ≡ true
or_left a b h = rw h refl

pub or_right : (a b : Bool) → b ≡ true → (a || b) ≡ true
or_right true b h = refl
or_right false b h = h

pub and_left : (a b : Bool) → (a && b) ≡ true → a ≡ true
and_left true b h = refl
and_left false b h = h

pub and_right : (a b : Bool) → (a && b) ≡ true → b ≡ true
and_right true b h = h
and_right false b h = absurd (true_false (sym h))

pub not_true : (b : Bool) → (b ≡ true → ⊥) → b ≡ false
not_true true h = absurd (h refl)
not_true false h = refl

pub not_false : (b : Bool) → (b ≡ false → ⊥) → b ≡ true
not_false true h = refl
not_false false h = absurd (h refl)

pub if_true : {A : Type 0} → (b : Bool) (x y : A) → b ≡ true → (if b then x else y) ≡ x
if_true b x y e = rw e refl

pub if_false : {A : Type 0} → (b : Bool) (x y : A) → b ≡ false → (if b then x else y) ≡ y
if_false b x y e = rw e refl

-- ---- one variable and another

truth_same : (a b c : Bool) → (same_truth a b && c) ≡ true → a ≡ b
truth_same true true c h = refl
truth_same true false c h = absurd (true_false (sym h))
truth_same false true c h = absurd (true_false (sym h))
truth_same false false c h = refl

declared_same : (d e : Declaration) → same_declaration d e ≡ true → is_single_declared d ≡ is_single_declared e
declared_same (Typed s x) (Typed r y) h = truth_same s r _ h
declared_same (Typed s x) Foreach h = absurd (true_false (sym h))
declared_same Foreach (Typed r y) h = absurd (true_false (sym h))
declared_same Foreach Foreach h = refl

pub single_same : (x y : VariableUse) → same_variable x y ≡ true → is_single_declared x.declared ≡ is_single_declared y.declared
single_same x y h = declared_same x.declared y.declared (and_right (x.number == y.number) _ h)

pub differ : (x y : VariableUse) (a b : Bool) → is_single_declared x.declared ≡ a → is_single_declared y.declared ≡ b → (a ≡ b → ⊥) → same_variable x y ≡ false
differ x y a b e f k = not_true (same_variable x y) (λ h. k (sym e ∙ single_same x y h ∙ f))

pub false_true : false ≡ true → ⊥
false_true e = cc

-- ---- the single ones

pub singles_keep : (w : Variable) (ws : List Variable) → is_single_declared w.named.declared ≡ true → singles (w ∷ ws) ≡ w ∷ singles ws
singles_keep w ws e = rw e refl

pub singles_drop : (w : Variable) (ws : List Variable) → is_single_declared w.named.declared ≡ false → singles (w ∷ ws) ≡ singles ws
singles_drop w ws e = rw e refl

-- a single variable is found among the single ones
pub find_single : (x : VariableUse) (ws : List Variable) → is_single_declared x.declared ≡ true → find_variable x ws ≡ find_variable x (singles ws)
find_single x [] h = refl
find_single x (w ∷ ws) h = go (is_single_declared w.named.declared) refl (find_single x ws h)
  where
    go : (b : Bool) → is_single_declared w.named.declared ≡ b → find_variable x ws ≡ find_variable x (singles ws) → find_variable x (w ∷ ws) ≡ find_variable x (singles (w ∷ ws))
    go true e ih = ap (λ y. if same_variable x w.named then w.held else y) ih ∙ sym (ap (find_variable x) (singles_keep w ws e))
    go false e ih = if_false (same_variable x w.named) _ _ (differ x w.named true false h e true_false) ∙ ih ∙ sym (ap (find_variable x) (singles_drop w ws e))

put_here : (x : VariableUse) (h : Held) (w : Variable) (ws : List Variable) → same_variable x w.named ≡ true → with_changed x h (w ∷ ws) ≡ (record w { held = h }) ∷ ws
put_here x h w ws e = if_true (same_variable x w.named) _ _ e

put_on : (x : VariableUse) (h : Held) (w : Variable) (ws : List Variable) → same_variable x w.named ≡ false → with_changed x h (w ∷ ws) ≡ w ∷ with_changed x h ws
put_on x h w ws e = if_false (same_variable x w.named) _ _ e

-- a plain variable isn't
pub put_plain : (x : VariableUse) (h : Held) (ws : List Variable) → is_single_declared x.declared ≡ false → with_changed x h (singles ws) ≡ singles ws
put_plain x v [] h = refl
put_plain x v (w ∷ ws) h = go (is_single_declared w.named.declared) refl (put_plain x v ws h)
  where
    go : (b : Bool) → is_single_declared w.named.declared ≡ b → with_changed x v (singles ws) ≡ singles ws → with_changed x v (singles (w ∷ ws)) ≡ singles (w ∷ ws)
    go true e ih = ap (with_changed x v) (singles_keep w ws e) ∙ put_on x v w (singles ws) (differ x w.named false true h e false_true) ∙ ap (λ y. w ∷ y) ih ∙ sym (singles_keep w ws e)
    go false e ih = ap (with_changed x v) (singles_drop w ws e) ∙ ih ∙ sym (singles_drop w ws e)

pub put_singles : (x : VariableUse) (h : Held) (ws : List Variable) → singles (with_changed x h ws) ≡ with_changed x h (singles ws)
put_singles x v [] = refl
put_singles x v (w ∷ ws) = go (is_single_declared w.named.declared) refl (same_variable x w.named) refl (put_singles x v ws)
  where
    go : (b : Bool) → is_single_declared w.named.declared ≡ b → (d : Bool) → same_variable x w.named ≡ d → singles (with_changed x v ws)
        ≡ with_changed x v (singles ws) → singles (with_changed x v (w ∷ ws)) ≡ with_changed x v (singles (w ∷ ws))
    go true e true k ih = ap singles (put_here x v w ws k) ∙ singles_keep (record w { held = v }) ws e ∙ sym (ap (with_changed x v) (singles_keep w ws e) ∙ put_here x v w (singles ws) k)
    go true e false k ih = ap singles (put_on x v w ws k) ∙ singles_keep w (with_changed x v ws) e ∙ ap (λ y. w ∷ y) ih
        ∙ sym (ap (with_changed x v) (singles_keep w ws e) ∙ put_on x v w (singles ws) k)
    go false e true k ih = ap singles (put_here x v w ws k) ∙ singles_drop (record w { held = v }) ws e
        ∙ sym (ap (with_changed x v) (singles_drop w ws e) ∙ put_plain x v ws (single_same x w.named k ∙ e))
    go false e false k ih = ap singles (put_on x v w ws k) ∙ singles_drop w (with_changed x v ws) e ∙ ih ∙ sym (ap (with_changed x v) (singles_drop w ws e))

-- ---- variables that leave

abbrev gone : List VariableUse → Variable → Bool
gone xs w = list_any (λ (x : VariableUse). same_variable x w.named) xs

without_on : (xs : List VariableUse) (w : Variable) (ws : List Variable) → gone xs w ≡ false → without_variables xs (w ∷ ws) ≡ w ∷ without_variables xs ws
without_on xs w ws e = rw e refl

without_out : (xs : List VariableUse) (w : Variable) (ws : List Variable) → gone xs w ≡ true → without_variables xs (w ∷ ws) ≡ without_variables xs ws
without_out xs w ws e = rw e refl

pub without_singles : (xs : List VariableUse) (ws : List Variable) → singles (without_variables xs ws) ≡ without_variables xs (singles ws)
without_singles xs [] = refl
without_singles xs (w ∷ ws) = go (is_single_declared w.named.declared) refl (gone xs w) refl (without_singles xs ws)
  where
    go : (b : Bool) → is_single_declared w.named.declared ≡ b → (d : Bool) → gone xs w ≡ d → singles (without_variables xs ws)
        ≡ without_variables xs (singles ws) → singles (without_variables xs (w ∷ ws)) ≡ without_variables xs (singles (w ∷ ws))
    go true e true k ih = ap singles (without_out xs w ws k) ∙ ih ∙ sym (ap (without_variables xs) (singles_keep w ws e) ∙ without_out xs w (singles ws) k)
    go true e false k ih = ap singles (without_on xs w ws k) ∙ singles_keep w (without_variables xs ws) e ∙ ap (λ y. w ∷ y) ih ∙ sym (ap (without_variables xs) (singles_keep w ws e) ∙ without_on xs w (singles ws) k)
    go false e true k ih = ap singles (without_out xs w ws k) ∙ ih ∙ sym (ap (without_variables xs) (singles_drop w ws e))
    go false e false k ih = ap singles (without_on xs w ws k) ∙ singles_drop w (without_variables xs ws) e ∙ ih ∙ sym (ap (without_variables xs) (singles_drop w ws e))

abbrev pub Plain : List VariableUse → Type 0
Plain [] = Unit {0}
Plain (x ∷ xs) = (is_single_declared x.declared ≡ false) × Plain xs

plain_stays : (xs : List VariableUse) (w : Variable) → Plain xs → is_single_declared w.named.declared ≡ true → gone xs w ≡ false
plain_stays [] w p e = refl
plain_stays (x ∷ xs) w p e = ap₂ (λ a b. a || b) (differ x w.named false true p.0 e false_true) (plain_stays xs w p.1 e)

pub without_plain : (xs : List VariableUse) (ws : List Variable) → Plain xs → without_variables xs (singles ws) ≡ singles ws
without_plain xs [] p = refl
without_plain xs (w ∷ ws) p = go (is_single_declared w.named.declared) refl (without_plain xs ws p)
  where
    go : (b : Bool) → is_single_declared w.named.declared ≡ b → without_variables xs (singles ws) ≡ singles ws → without_variables xs (singles (w ∷ ws)) ≡ singles (w ∷ ws)
    go true e ih = ap (without_variables xs) (singles_keep w ws e) ∙ without_on xs w (singles ws) (plain_stays xs w p e) ∙ ap (λ y. w ∷ y) ih ∙ sym (singles_keep w ws e)
    go false e ih = ap (without_variables xs) (singles_drop w ws e) ∙ ih ∙ sym (singles_drop w ws e)

pub plain_both : (xs ys : List VariableUse) → Plain xs → Plain ys → Plain (xs ++ ys)
plain_both [] ys p q = q
plain_both (x ∷ xs) ys p q = (p.0, plain_both xs ys p.1 q)
