-- The check for repeated qualifiers is proved to depend only on which of the two qualifiers occurred before.
use Rattle.std.proofs.Common.{◌≡◌, Bool, true, false, not, ◌||◌, if◌then◌else◌, List, [], ◌∷◌, ◌++◌, refl, ap, ◌∙◌}
use Rattle.std.specs.List.{list_any}
use Rattle.ti_syntax.specs.declared.tree.types.Qualifier.{Qualifier}
use Rattle.ti_lang.specs.Scopes.{is_single_word}
use Rattle.ti_rules.specs.declared.rule.Rule.TheVariants.{Y7}
use Rattle.ti_rules.specs.Refusals.{refused_if}
use Rattle.ti_rules.specs.Mirrors.First.{earliest}
use Rattle.ti_rules.specs.Broken.Words.{same_qualifier, repeated_qualifiers}
use Rattle.ti_lang.specs.Typing.Kinds.{same_truth}
use Rattle.ti_types.specs.Mirrors.Words.{qualifiers_again}

-- a `single` among these, and a `local`
abbrev any_single : List Qualifier → Bool
any_single [] = false
any_single (q ∷ rest) = any_single rest || is_single_word q.word

abbrev any_local : List Qualifier → Bool
any_local [] = false
any_local (q ∷ rest) = any_local rest || not (is_single_word q.word)

either_way : (a b : Bool) → a || b ≡ b || a
either_way true true = refl
either_way true false = refl
either_way false true = refl
either_way false false = refl

among : (q : Qualifier) (before : List Qualifier) → (if is_single_word q.word then any_single before else any_local before) ≡ list_any (same_qualifier q) before
among q [] = none (is_single_word q.word)
  where
    none : (b : Bool) → (if b then false else false) ≡ false
    none true = refl
    none false = refl
among q (r ∷ rest) = by (is_single_word q.word) (is_single_word r.word) (any_single rest) (any_local rest) (list_any (same_qualifier q) rest) (among q rest)
  where
    by : (b c m n w : Bool) → (if b then m else n) ≡ w → (if b then m || c else n || not c) ≡ same_truth b c || w
    by true true m n w e = either_way m true
    by true false m n w e = either_way m false ∙ e
    by false true m n w e = either_way n false ∙ e
    by false false m n w e = either_way n true

again_is : (before words : List Qualifier) → qualifiers_again (any_single before) (any_local before) words ≡ repeated_qualifiers before words
again_is before [] = refl
again_is before (q ∷ rest) =
    ap (λ b. refused_if b Y7 q.place ++ qualifiers_again (any_single (q ∷ before)) (any_local (q ∷ before)) rest) (among q before)
    ∙ ap (λ l. refused_if (list_any (same_qualifier q) before) Y7 q.place ++ l) (again_is (q ∷ before) rest)

pub none_before : (words : List Qualifier) → earliest (qualifiers_again false false words) ≡ earliest (repeated_qualifiers [] words)
none_before words = ap earliest (again_is [] words)

pub ruleset repeated = (none_before)
