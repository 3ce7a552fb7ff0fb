use Rattle.std.proofs.Common.{◌≡◌, drop, flat_map}
use Rattle.ti_lang.specs.Program.Views.{value_type_of}
use Rattle.ti_rules.specs.Mirrors.First.{earlier_of, earliest}
use Rattle.ti_rules.specs.Broken.Words.{base_word_refusals}
use Rattle.ti_types.proofs.words.base_words.Given as goal

abbrev pub invariant-loop-q : goal.invariant-loop-q
invariant-loop-q l =
    earliest (flat_map (base_word_refusals l.may_be_single (value_type_of l.ty)) l.words)
    ≡ earlier_of l.found (earliest (flat_map (base_word_refusals l.may_be_single (value_type_of l.ty)) (drop l.q-index l.words)))
