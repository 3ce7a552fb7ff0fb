-- For proofs only: the model of the check for repeated qualifiers, by which of the two qualifiers occurred before.
use Rattle.std.specs.Prelude.{Bool, not, ◌||◌, if◌then◌else◌, List, [], ◌∷◌, ◌++◌}
use Rattle.ti_syntax.specs.declared.tree.types.Qualifier.{Qualifier}
use Rattle.ti_lang.specs.Scopes.{is_single_word}
use Rattle.ti_rules.specs.declared.rule.Rule.TheVariants.{Y7}
use Rattle.ti_rules.specs.declared.refusal.Refusal.{Refusal}
use Rattle.ti_rules.specs.Refusals.{refused_if}

-- the errors of these qualifiers, after others of which one is `single` (`had_single`) or `local` (`had_local`)
abbrev pub qualifiers_again : Bool → Bool → List Qualifier → List Refusal
qualifiers_again had_single had_local [] = []
qualifiers_again had_single had_local (q ∷ rest) =
    refused_if (if is_single_word q.word then had_single else had_local) Y7 q.place
    ++ qualifiers_again (had_single || is_single_word q.word) (had_local || not (is_single_word q.word)) rest
