use Rattle.std.proofs.Common.{◌≡◌, drop, false}
use Rattle.ti_rules.specs.Mirrors.First.{earlier_of, earliest}
use Rattle.ti_types.specs.Mirrors.Words.{qualifiers_again}
use Rattle.ti_types.proofs.words.repetition_by_flags.Given as goal

abbrev pub invariant-loop-q : goal.invariant-loop-q
invariant-loop-q l = earliest (qualifiers_again false false l.words) ≡ earlier_of l.found (earliest (qualifiers_again l.had_single l.had_local (drop l.q-index l.words)))
