-- The first error of a list is proved to be the earlier of the first one so far and the first one of the rest.
use Rattle.std.proofs.Common.{◌≡◌, ℕ, Bool, not, ◌||◌, if◌then◌else◌, map, ◌+◌, ◌<◌, ◌≤◌, List, [], ◌∷◌, drop, length, get_or, flat_map, Option, None, refl, ap, sym, ◌∙◌, add-one}
use Rattle.std.proofs.Math.Seq.{drop-cons}
use Rattle.std.proofs.lemmas.List.{drop_all}
use Rattle.ti_rules.specs.declared.refusal.Refusal.{Refusal}
use Rattle.ti_syntax.specs.declared.tree.types.Qualifier.{Qualifier}
use Rattle.ti_lang.specs.Scopes.{is_single_word}
use Rattle.ti_rules.specs.declared.rule.Rule.TheVariants.{Y7}
use Rattle.ti_types.specs.Mirrors.Words.{qualifiers_again}
use Rattle.ti_rules.specs.Refusals.{refused_if}
use Rattle.ti_rules.specs.Mirrors.First.{earlier_of, earliest}
use Rattle.ti_rules.proofs.Lemmas.{sooner_none, sooner_assoc, first_append}

pub none_sooner : (a : Option Refusal) → a ≡ earlier_of None a
unfolding earlier_of
none_sooner a = refl

pub drop_next : {A : Type 0} (xs : List A) (i : ℕ) (d : A) → i < length xs → drop i xs ≡ get_or xs i d ∷ drop (i + 1) xs
drop_next xs i d lt = drop-cons xs i d lt ∙ ap (λ j. get_or xs i d ∷ drop j xs) (sym (add-one i))

-- one element more
pub each_step : {A : Type 0} (f : A → List Refusal) (xs : List A) (i : ℕ) (d : A) (found next : Option Refusal) → i < length xs → next ≡ earlier_of found (earliest (f (get_or xs i d)))
    → earlier_of found (earliest (flat_map f (drop i xs))) ≡ earlier_of next (earliest (flat_map f (drop (i + 1) xs)))
each_step f xs i d found next lt is =
    let x = get_or xs i d in
    ap (λ l. earlier_of found (earliest (flat_map f l))) (drop_next xs i d lt)
    ∙ ap (earlier_of found) (first_append (f x) (flat_map f (drop (i + 1) xs)))
    ∙ sym (sooner_assoc found (earliest (f x)) (earliest (flat_map f (drop (i + 1) xs))))
    ∙ sym (ap (λ a. earlier_of a (earliest (flat_map f (drop (i + 1) xs)))) is)

-- the same of what the elements are seen as
pub seen_step : {A B : Type 0} (view : A → B) (f : B → List Refusal) (xs : List A) (i : ℕ) (d : A) (found next : Option Refusal)
    → i < length xs → next ≡ earlier_of found (earliest (f (view (get_or xs i d))))
    → earlier_of found (earliest (flat_map f (map view (drop i xs)))) ≡ earlier_of next (earliest (flat_map f (map view (drop (i + 1) xs))))
seen_step view f xs i d found next lt is =
    let x = get_or xs i d in
    ap (λ l. earlier_of found (earliest (flat_map f (map view l)))) (drop_next xs i d lt)
    ∙ ap (earlier_of found) (first_append (f (view x)) (flat_map f (map view (drop (i + 1) xs))))
    ∙ sym (sooner_assoc found (earliest (f (view x))) (earliest (flat_map f (map view (drop (i + 1) xs)))))
    ∙ sym (ap (λ a. earlier_of a (earliest (flat_map f (map view (drop (i + 1) xs))))) is)

sooner_nil : (a : Option Refusal) → earlier_of a (earliest []) ≡ a
unfolding earliest
sooner_nil a = sooner_none a

pub each_end : {A : Type 0} (f : A → List Refusal) (xs : List A) (i : ℕ) (found : Option Refusal) → length xs ≤ i → earlier_of found (earliest (flat_map f (drop i xs))) ≡ found
each_end f xs i found le = ap (λ l. earlier_of found (earliest (flat_map f l))) (drop_all i xs le) ∙ sooner_nil found

pub seen_end : {A B : Type 0} (view : A → B) (f : B → List Refusal) (xs : List A) (i : ℕ) (found : Option Refusal) → length xs ≤ i → earlier_of found (earliest (flat_map f (map view (drop i xs)))) ≡ found
seen_end view f xs i found le = ap (λ l. earlier_of found (earliest (flat_map f (map view l)))) (drop_all i xs le) ∙ sooner_nil found

-- ---- words that stand twice

pub again_step : (had_single had_local next_single next_local : Bool) (words : List Qualifier) (i : ℕ) (d : Qualifier) (found next : Option Refusal) → i < length words
    → next ≡ earlier_of found (earliest (refused_if (if is_single_word (get_or words i d).word then had_single else had_local) Y7 (get_or words i d).place))
    → next_single ≡ had_single || is_single_word (get_or words i d).word → next_local ≡ had_local || not (is_single_word (get_or words i d).word)
    → earlier_of found (earliest (qualifiers_again had_single had_local (drop i words))) ≡ earlier_of next (earliest (qualifiers_again next_single next_local (drop (i + 1) words)))
again_step had_single had_local next_single next_local words i d found next lt is is_single is_local =
    let q = get_or words i d in
    let own = refused_if (if is_single_word q.word then had_single else had_local) Y7 q.place in
    let rest = qualifiers_again (had_single || is_single_word q.word) (had_local || not (is_single_word q.word)) (drop (i + 1) words) in
    ap (λ l. earlier_of found (earliest (qualifiers_again had_single had_local l))) (drop_next words i d lt)
    ∙ ap (earlier_of found) (first_append own rest)
    ∙ sym (sooner_assoc found (earliest own) (earliest rest))
    ∙ sym (ap (λ a. earlier_of a (earliest rest)) is)
    ∙ sym (ap (λ b. earlier_of next (earliest (qualifiers_again b (had_local || not (is_single_word q.word)) (drop (i + 1) words)))) is_single)
    ∙ sym (ap (λ b. earlier_of next (earliest (qualifiers_again next_single b (drop (i + 1) words)))) is_local)

pub again_end : (had_single had_local : Bool) (words : List Qualifier) (i : ℕ) (found : Option Refusal) → length words ≤ i
    → earlier_of found (earliest (qualifiers_again had_single had_local (drop i words))) ≡ found
again_end had_single had_local words i found le = ap (λ l. earlier_of found (earliest (qualifiers_again had_single had_local l))) (drop_all i words le) ∙ sooner_nil found
