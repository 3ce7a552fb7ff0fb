use Rattle.std.proofs.Common.{◌≡◌, drop, flat_map}
use Rattle.ti_rules.specs.Mirrors.First.{earlier_of, earliest}
use Rattle.ti_rules.specs.SingleRules.{word_refusals}
use Rattle.ti_explain.proofs.methods.single_words.Given as goal

abbrev pub invariant-loop-q : goal.invariant-loop-q
invariant-loop-q l = earliest (flat_map word_refusals l.words) ≡ earlier_of l.found (earliest (flat_map word_refusals (drop l.q-index l.words)))
