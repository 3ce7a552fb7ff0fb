use Rattle.std.proofs.Common.{◌≡◌, drop, flat_map, map}
use Rattle.ti_rules.specs.Mirrors.First.{earlier_of, earliest}
use Rattle.ti_rules.specs.TypeRules.{class_refusals}
use Rattle.ti_lang.specs.Program.Views.{numbered_class_of}
use Rattle.ti_check.proofs.declarations.classes.Given as goal

abbrev pub invariant-loop-c : goal.invariant-loop-c
invariant-loop-c l = earliest (flat_map class_refusals (map numbered_class_of l.classes)) ≡ earlier_of l.found (earliest (flat_map class_refusals (map numbered_class_of (drop l.c-index l.classes))))
