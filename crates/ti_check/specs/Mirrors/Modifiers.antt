-- For proofs only: the model of the check for repeated modifiers, by the set of modifiers seen before.
use Rattle.std.specs.Prelude.{Bool, true, false, ◌||◌, List, [], ◌∷◌, ◌++◌}
use Rattle.ti_syntax.specs.declared.tree.classes.Modifier.{Modifier}
use Rattle.ti_syntax.specs.declared.tree.classes.ModifierWord.{ModifierWord}
use Rattle.ti_syntax.specs.declared.tree.classes.ModifierWord.TheVariants as word
use Rattle.ti_rules.specs.declared.rule.Rule.TheVariants.{Y7}
use Rattle.ti_rules.specs.declared.refusal.Refusal.{Refusal}
use Rattle.ti_rules.specs.Refusals.{refused_if}
use Rattle.ti_rules.specs.Broken.Words.{same_word}
use Rattle.ti_check.specs.declared.modifiers.ModifierSet.{ModifierSet}

-- the errors of modifiers that were seen before
abbrev pub repeated_after : (ModifierWord → Bool) → List Modifier → List Refusal
repeated_after met [] = []
repeated_after met (m ∷ rest) = refused_if (met m.word) Y7 m.place ++ repeated_after (λ w. same_word w m.word || met w) rest

-- whether the modifier is in the set
abbrev pub contains_modifier : ModifierSet → ModifierWord → Bool
contains_modifier met word.Public = met.with_public
contains_modifier met word.Private = met.with_private
contains_modifier met word.Protected = met.with_protected
contains_modifier met word.Static = met.with_static
contains_modifier met word.Final = met.with_final
contains_modifier met word.Single = met.with_single

-- the set with this modifier added
abbrev pub add_modifier : ModifierSet → ModifierWord → ModifierSet
add_modifier met word.Public = record met { with_public = true }
add_modifier met word.Private = record met { with_private = true }
add_modifier met word.Protected = record met { with_protected = true }
add_modifier met word.Static = record met { with_static = true }
add_modifier met word.Final = record met { with_final = true }
add_modifier met word.Single = record met { with_single = true }

-- the empty set
abbrev pub no_modifiers : ModifierWord → Bool
no_modifiers w = false
