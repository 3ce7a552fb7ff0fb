use Rattle.std.proofs.Common.{◌≡◌, drop, flat_map}
use Rattle.ti_rules.specs.Mirrors.First.{earlier_of, earliest}
use Rattle.ti_rules.specs.Broken.Words.{method_modifier_refusals}
use Rattle.ti_check.proofs.modifiers.method_modifiers.Given as goal

abbrev pub invariant-loop-m : goal.invariant-loop-m
invariant-loop-m l = earliest (flat_map (method_modifier_refusals l.is_static) l.words) ≡ earlier_of l.found (earliest (flat_map (method_modifier_refusals l.is_static) (drop l.m-index l.words)))
