use Rattle.std.proofs.Common.{◌≡◌, drop}
use Rattle.ti_rules.specs.Mirrors.First.{earlier_of, earliest}
use Rattle.ti_check.specs.Mirrors.Modifiers.{repeated_after, contains_modifier, no_modifiers}
use Rattle.ti_check.proofs.modifiers.repetition_by_set.Given as goal

abbrev pub invariant-loop-m : goal.invariant-loop-m
invariant-loop-m l = earliest (repeated_after no_modifiers l.words) ≡ earlier_of l.found (earliest (repeated_after (contains_modifier l.met) (drop l.m-index l.words)))
