use Rattle.std.proofs.Common.{◌≡◌, drop, flat_map, map}
use Rattle.ti_rules.specs.Mirrors.First.{earlier_of, earliest}
use Rattle.ti_rules.specs.TypeRules.{field_refusals}
use Rattle.ti_lang.specs.Program.Views.{numbered_field_of}
use Rattle.ti_check.proofs.declarations.fields.Given as goal

abbrev pub invariant-loop-f : goal.invariant-loop-f
invariant-loop-f l = earliest (flat_map field_refusals (map numbered_field_of l.fields)) ≡ earlier_of l.found (earliest (flat_map field_refusals (map numbered_field_of (drop l.f-index l.fields))))
