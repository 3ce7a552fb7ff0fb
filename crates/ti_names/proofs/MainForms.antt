-- A tree is proved to have a `main` of the required form exactly if no rule on `main` is broken.
use Rattle.std.proofs.Common.{◌≡◌, ℕ, zero, suc, ◌+◌, ◌==◌, Bool, true, false, cond, not, ◌&&◌, ◌||◌, List, [], ◌∷◌, ◌++◌, map, length, Option, Some, None, slice_get, position, bytes_eq, codes, refl, ap, sym, ◌∙◌, subst, arith}
use Rattle.std.specs.List.{list_any, position_from}
use Rattle.std.specs.Option.{option_map_or, option_and_then, unwrap_or}
use Rattle.std.proofs.lemmas.Bool.Decides.{nat_tests}
use Rattle.std.proofs.lemmas.Iterator.Adapters.{position_from-zero}
use Rattle.ti_base.specs.declared.place.Place.{Place}
use Rattle.ti_syntax.specs.Trees.Classes.{ClassTree, TextTree}
use Rattle.ti_lang.specs.Members.{OwnMethod, methods_of, method_named}
use Rattle.ti_lang.specs.Numbering.{HasMain}
use Rattle.ti_rules.specs.declared.rule.Rule.{Rule}
use Rattle.ti_rules.specs.declared.rule.Rule.TheVariants.{N2, N3}
use Rattle.ti_rules.specs.Refusals.{refused_if}
use Rattle.ti_lang.specs.MainForm.{is_words, has_main_form}
use Rattle.ti_rules.specs.MainForm.{main_class, main_method, is_another, form_refusals, words_refusals, main_refusals}
use Rattle.ti_names.proofs.CleanNodes.{empty_left, empty_right}
use Rattle.ti_names.proofs.OnlyOne.{main_is}
use Rattle.ti_names.proofs.TotalPrograms.{same_number}

-- ---- tests

not_refused : (b : Bool) (rule : Rule) (at : Place) → refused_if b rule at ≡ [] → b ≡ false
not_refused true rule at e = cc
not_refused false rule at e = refl

-- ---- methods with a parameter `String[] x`

-- none of them is another than main
no_words : (main : Option ℕ) (n : ℕ) (ms : List OwnMethod) → ((k : ℕ) (own : OwnMethod) → slice_get ms k ≡ Some own
    → (is_words own.method.params && is_another main (n + k)) ≡ false) → words_refusals main n ms ≡ []
no_words main n [] none = refl
no_words main n (x ∷ ms) none =
    let number : n ≡ n + 0 = omega arith in
    let first : (is_words x.method.params && is_another main n) ≡ false = ap (λ z. is_words x.method.params && is_another main z) number ∙ none 0 x refl in
    ap (λ b. refused_if b N3 x.method.place ++ words_refusals main (n + 1) ms) first
    ∙ no_words main (n + 1) ms (λ k own at. let more : n + 1 + k ≡ n + suc k = omega arith in ap (λ z. is_words own.method.params && is_another main z) more ∙ none (suc k) own at)

words_none : (main : Option ℕ) (n : ℕ) (ms : List OwnMethod) → words_refusals main n ms ≡ [] → (k : ℕ) (own : OwnMethod) → slice_get ms k
    ≡ Some own → (is_words own.method.params && is_another main (n + k)) ≡ false
words_none main n [] e k own at = cc
words_none main n (x ∷ ms) e zero own at =
    let same : x ≡ own = cc in
    let number : n + 0 ≡ n = omega arith in
    ap (λ z. is_words z.method.params && is_another main (n + 0)) (sym same) ∙ ap (λ k. is_words x.method.params && is_another main k) number
    ∙ not_refused (is_words x.method.params && is_another main n) N3 x.method.place (empty_left _ (words_refusals main (n + 1) ms) e)
words_none main n (x ∷ ms) e (suc k) own at =
    let number : n + suc k ≡ n + 1 + k = omega arith in
    ap (λ z. is_words own.method.params && is_another main z) number
    ∙ words_none main (n + 1) ms (empty_right (refused_if (is_words x.method.params && is_another main n) N3 x.method.place) (words_refusals main (n + 1) ms) e) k own at

-- ---- nothing is wrong

pub clean_main : (text : TextTree) (number : ℕ) → HasMain text number → main_refusals text ≡ []
clean_main text number main =
    let found = main_is main in
    let form : form_refusals text (main_class text) (main_method text) ≡ [] =
    (λ j. form_refusals text (main.is_class j) (found j)) ∙ ap (λ (o : Option OwnMethod). option_map_or
    (λ (own : OwnMethod). refused_if (not (has_main_form own.method)) N3 own.method.place) o []) main.stands
    ∙ ap (λ b. refused_if (not b) N3 main.own.method.place) main.form in
    let words : words_refusals (main_method text) 0 (methods_of text) ≡ [] = no_words (main_method text) 0 (methods_of text) (λ k own at. alone k own at (is_words own.method.params) refl) in
    λ j. form j ++ words j
  where
    alone : (k : ℕ) (own : OwnMethod) → slice_get (methods_of text) k ≡ Some own → (b : Bool) → is_words own.method.params ≡ b → (b && is_another (main_method text) (0 + k)) ≡ false
    alone k own at false e = refl
    alone k own at true e =
        let same : k ≡ number = main.alone k own at e in
        let zero_k : 0 + k ≡ number = omega (arith, same) in
        let self : (number == number) ≡ true = grind (arith, nat_tests) in
        (λ j. is_another (main_is main j) (zero_k j)) ∙ ap not self

-- what stands where a test finds something
found_from : {A : Type 0} (t : A → Bool) (n : ℕ) (xs : List A) (i : ℕ) → position_from t n xs ≡ Some i → (j : ℕ) × (x : A) × (i ≡ n + j) × (slice_get xs j ≡ Some x)
found_from t n [] i e = cc
found_from {A = A} t n (y ∷ ys) i e = by (t y) e (found_from t (n + 1) ys i)
  where
    by : (b : Bool) → cond b (Some n) (position_from t (n + 1) ys) ≡ Some i → (position_from t (n + 1) ys ≡ Some i → (j : ℕ) × (x : A) × (i ≡ n + 1 + j) × (slice_get ys j ≡ Some x))
        → (j : ℕ) × (x : A) × (i ≡ n + j) × (slice_get (y ∷ ys) j ≡ Some x)
    by true is rest = let same : n ≡ i = cc in (0, y, omega (arith, same), refl)
    by false is rest = let f = rest is in (suc f.0, f.1, omega (arith, f.2), f.3)

found_at : {A : Type 0} (t : A → Bool) (xs : List A) (i : ℕ) → position t xs ≡ Some i → (x : A) × (slice_get xs i ≡ Some x)
found_at t xs i e =
    let f = found_from t 0 xs i (sym (position_from-zero t xs) ∙ e) in
    let same : f.0 ≡ i = omega (arith, f.2) in
    (f.1, ap (slice_get xs) (sym same) ∙ f.3)

pub main_of_clean : (text : TextTree) → main_refusals text ≡ [] → HasMain text (unwrap_or (main_method text) 0)
main_of_clean text none = by (main_class text) refl (empty_left (form_refusals text (main_class text) (main_method text)) _ none)
  where
    words : words_refusals (main_method text) 0 (methods_of text) ≡ []
    words = empty_right (form_refusals text (main_class text) (main_method text)) _ none

    only : (n : ℕ) → main_method text ≡ Some n → (k : ℕ) (other : OwnMethod) → slice_get (methods_of text) k ≡ Some other → is_words other.method.params ≡ true → k ≡ n
    only n f k other at is =
        let zero_k : 0 + k ≡ k = omega arith in
        let apart : is_another (main_method text) (0 + k) ≡ false =
        ap (λ b. b && is_another (main_method text) (0 + k)) (sym is) ∙ words_none (main_method text) 0 (methods_of text) words k other at in
        let same : Some n ≡ Some (0 + k) = sym f ∙ same_number (main_method text) (0 + k) other.method.place (ap (λ b. refused_if b N2 other.method.place) apart) in
        let number : n ≡ 0 + k = cc in
        sym (number ∙ zero_k)

    formed : (class n : ℕ) → main_class text ≡ Some class → main_method text ≡ Some n → (own : OwnMethod) → slice_get (methods_of text) n
        ≡ Some own → (b : Bool) → has_main_form own.method ≡ b → refused_if (not b) N3 own.method.place ≡ []
        → HasMain text n
    formed class n e f own at true is form = record {
      class = class;
      is_class = e;
      is_method = sym (ap (λ c. option_and_then (λ (c : ℕ). method_named text c (codes "main")) c) e) ∙ f;
      own = own;
      stands = at;
      form = is;
      alone = only n f;
    }
    formed class n e f own at false is form = cc

    numbered : (class : ℕ) → main_class text ≡ Some class → (number : Option ℕ) → main_method text ≡ number
        → form_refusals text (Some class) number ≡ [] → HasMain text (unwrap_or (main_method text) 0)
    numbered class e None f form =
        let c = found_at (λ (x : ClassTree). bytes_eq (codes "Main") x.name) text class e in
        let named : refused_if true N3 c.0.place ≡ [] = sym (ap (λ (o : Option ClassTree). option_map_or (λ (x : ClassTree). refused_if true N3 x.place) o []) c.1) ∙ form in
        cc
    numbered class e (Some n) f form =
        let method : method_named text class (codes "main") ≡ Some n = sym (ap (λ c. option_and_then (λ (c : ℕ). method_named text c (codes "main")) c) e) ∙ f in
        let m = found_at (λ (x : OwnMethod). (x.class == class) && bytes_eq (codes "main") x.method.name) (methods_of text) n method in
        subst (HasMain text) (sym (ap (λ o. unwrap_or o 0) f))
        (formed class n e f m.0 m.1 (has_main_form m.0.method) refl (sym
        (ap (λ (o : Option OwnMethod). option_map_or (λ (own : OwnMethod). refused_if
        (not (has_main_form own.method)) N3 own.method.place) o []) m.1) ∙ form))

    by : (class : Option ℕ) → main_class text ≡ class → form_refusals text class (main_method text) ≡ [] → HasMain text (unwrap_or (main_method text) 0)
    by None e form = cc
    by (Some class) e form = numbered class e (main_method text) refl form
