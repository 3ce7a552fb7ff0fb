use Rattle.std.proofs.Common.{◌≡◌, drop, flat_map}
use Rattle.ti_rules.specs.Mirrors.First.{earlier_of, earliest}
use Rattle.ti_rules.specs.Broken.Words.{field_modifier_refusals}
use Rattle.ti_check.proofs.modifiers.field_modifiers.Given as goal

abbrev pub invariant-loop-m : goal.invariant-loop-m
invariant-loop-m l = earliest (flat_map field_modifier_refusals l.words) ≡ earlier_of l.found (earliest (flat_map field_modifier_refusals (drop l.m-index l.words)))
