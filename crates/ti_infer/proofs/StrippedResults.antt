-- In a stripped program no result has the qualifier `single`.
use Rattle.std.proofs.Common.{◌≡◌, ℕ, ◌+◌, Bool, true, false, not, if◌then◌else◌, List, [], ◌∷◌, flat_map, refl}
use Rattle.ti_syntax.specs.declared.tree.types.Qualifier.{Qualifier}
use Rattle.ti_lang.specs.Scopes.{is_single_word}
use Rattle.ti_lang.specs.Program.Classes.{NumberedResult, NumberedMethod, ProgramView}
use Rattle.ti_lang.specs.Program.Classes as c
use Rattle.ti_rules.specs.SingleRules.{word_refusals}
use Rattle.ti_infer.specs.Stripped.{plain_words, plain_result, plain_methods, stripped, IsPlainResult, HavePlainResults}
use Rattle.ti_infer.proofs.Lists.{none_refused, both_none}

no_words : (qs : List Qualifier) → flat_map word_refusals (plain_words qs) ≡ []
no_words [] = refl
no_words (q ∷ qs) = by (is_single_word q.word) refl (no_words qs)
  where
    by : (b : Bool) → is_single_word q.word ≡ b → flat_map word_refusals (plain_words qs) ≡ [] → flat_map word_refusals (if not b then q ∷ plain_words qs else plain_words qs) ≡ []
    by true h k = k
    by false h k = both_none _ _ (none_refused _ _ _ h) k

result_plain : (r : NumberedResult) → IsPlainResult (plain_result r)
result_plain c.Void = tt
result_plain (c.Typed type) = no_words type.qualifiers

methods_plain : (main number : ℕ) (ms : List NumberedMethod) → HavePlainResults (plain_methods main number ms)
methods_plain main number [] = tt
methods_plain main number (m ∷ ms) = (result_plain m.result, methods_plain main (number + 1) ms)

pub stripped_plain : (p : ProgramView) → HavePlainResults (stripped p).methods
stripped_plain p = methods_plain p.main 0 p.methods
