-- The check for repeated modifiers is proved to depend only on which modifiers occurred before.
use Rattle.std.proofs.Common.{◌≡◌, ℕ, Bool, false, ◌||◌, ◌+◌, ◌<◌, ◌≤◌, List, [], ◌∷◌, ◌++◌, drop, length, get_or, Option, None, refl, ap, sym, ◌∙◌}
use Rattle.std.specs.List.{list_any}
use Rattle.std.proofs.lemmas.List.{drop_all}
use Rattle.ti_syntax.specs.declared.tree.classes.Modifier.{Modifier}
use Rattle.ti_syntax.specs.declared.tree.classes.ModifierWord.{ModifierWord}
use Rattle.ti_syntax.specs.declared.tree.classes.ModifierWord.TheVariants as word
use Rattle.ti_rules.specs.declared.rule.Rule.TheVariants.{Y7}
use Rattle.ti_rules.specs.declared.refusal.Refusal.{Refusal}
use Rattle.ti_rules.specs.Refusals.{refused_if}
use Rattle.ti_rules.specs.Mirrors.First.{earlier_of, earliest}
use Rattle.ti_rules.specs.Broken.Words.{same_word, repeated_modifiers}
use Rattle.ti_rules.proofs.Lemmas.{first_append, sooner_assoc, sooner_none}
use Rattle.ti_types.proofs.Lemmas.{none_sooner, drop_next}
use Rattle.ti_check.specs.declared.modifiers.ModifierSet.{ModifierSet}
use Rattle.ti_check.specs.Mirrors.Modifiers.{repeated_after, contains_modifier, add_modifier, no_modifiers}

again_behind : (before rest : List Modifier) → repeated_modifiers before rest ≡ repeated_after (λ w. list_any (λ (other : Modifier). same_word w other.word) before) rest
again_behind before [] = refl
again_behind before (m ∷ rest) = ap (λ l. refused_if (list_any (λ (other : Modifier). same_word m.word other.word) before) Y7 m.place ++ l) (again_behind (m ∷ before) rest)

-- before the first, no word was met
pub again_is : (words : List Modifier) → repeated_modifiers [] words ≡ repeated_after no_modifiers words
again_is words = again_behind [] words

met_one : (met : ModifierSet) (v w : ModifierWord) → contains_modifier (add_modifier met v) w ≡ same_word w v || contains_modifier met w
met_one met word.Public word.Public = refl
met_one met word.Public word.Private = refl
met_one met word.Public word.Protected = refl
met_one met word.Public word.Static = refl
met_one met word.Public word.Final = refl
met_one met word.Public word.Single = refl
met_one met word.Private word.Public = refl
met_one met word.Private word.Private = refl
met_one met word.Private word.Protected = refl
met_one met word.Private word.Static = refl
met_one met word.Private word.Final = refl
met_one met word.Private word.Single = refl
met_one met word.Protected word.Public = refl
met_one met word.Protected word.Private = refl
met_one met word.Protected word.Protected = refl
met_one met word.Protected word.Static = refl
met_one met word.Protected word.Final = refl
met_one met word.Protected word.Single = refl
met_one met word.Static word.Public = refl
met_one met word.Static word.Private = refl
met_one met word.Static word.Protected = refl
met_one met word.Static word.Static = refl
met_one met word.Static word.Final = refl
met_one met word.Static word.Single = refl
met_one met word.Final word.Public = refl
met_one met word.Final word.Private = refl
met_one met word.Final word.Protected = refl
met_one met word.Final word.Static = refl
met_one met word.Final word.Final = refl
met_one met word.Final word.Single = refl
met_one met word.Single word.Public = refl
met_one met word.Single word.Private = refl
met_one met word.Single word.Protected = refl
met_one met word.Single word.Static = refl
met_one met word.Single word.Final = refl
met_one met word.Single word.Single = refl

met_more : (met : ModifierSet) (v : ModifierWord) → contains_modifier (add_modifier met v) ≡ (λ w. same_word w v || contains_modifier met w)
met_more met v = λ j w. met_one met v w j

abbrev none_met : ModifierSet
none_met = record { with_public = false; with_private = false; with_protected = false; with_static = false; with_final = false; with_single = false }

has_none : (w : ModifierWord) → contains_modifier none_met w ≡ false
has_none word.Public = refl
has_none word.Private = refl
has_none word.Protected = refl
has_none word.Static = refl
has_none word.Final = refl
has_none word.Single = refl

pub met_init : (words : List Modifier) (met : ModifierSet) → met ≡ none_met → earliest (repeated_after no_modifiers words) ≡ earlier_of None (earliest (repeated_after (contains_modifier met) words))
met_init words met is =
    let none : no_modifiers ≡ contains_modifier none_met = λ j w. sym (has_none w) j in
    none_sooner (earliest (repeated_after no_modifiers words)) ∙ ap (λ f. earlier_of None (earliest (repeated_after f words))) (none ∙ sym (ap contains_modifier is))

pub met_step : (met next_met : ModifierSet) (words : List Modifier) (i : ℕ) (d : Modifier) (b : Bool) (found next : Option Refusal) → i < length words → b ≡ contains_modifier met (get_or words i d).word
    → next ≡ earlier_of found (earliest (refused_if b Y7 (get_or words i d).place)) → next_met ≡ add_modifier met (get_or words i d).word
    → earlier_of found (earliest (repeated_after (contains_modifier met) (drop i words))) ≡ earlier_of next (earliest (repeated_after (contains_modifier next_met) (drop (i + 1) words)))
met_step met next_met words i d b found next lt is_met_word is is_met =
    let m = get_or words i d in
    let own = refused_if (contains_modifier met m.word) Y7 m.place in
    let rest = repeated_after (λ w. same_word w m.word || contains_modifier met w) (drop (i + 1) words) in
    ap (λ l. earlier_of found (earliest (repeated_after (contains_modifier met) l))) (drop_next words i d lt)
    ∙ ap (earlier_of found) (first_append own rest)
    ∙ sym (sooner_assoc found (earliest own) (earliest rest))
    ∙ sym (ap (λ a. earlier_of a (earliest rest)) (is ∙ ap (λ z. earlier_of found (earliest (refused_if z Y7 m.place))) is_met_word))
    ∙ sym (ap (λ f. earlier_of next (earliest (repeated_after f (drop (i + 1) words)))) (ap contains_modifier is_met ∙ met_more met m.word))

sooner_nil : (a : Option Refusal) → earlier_of a (earliest []) ≡ a
unfolding earliest
sooner_nil a = sooner_none a

pub met_end : (met : ModifierSet) (words : List Modifier) (i : ℕ) (found : Option Refusal) → length words ≤ i → earlier_of found (earliest (repeated_after (contains_modifier met) (drop i words))) ≡ found
met_end met words i found le = ap (λ l. earlier_of found (earliest (repeated_after (contains_modifier met) l))) (drop_all i words le) ∙ sooner_nil found
