-- The reasons for a refusal by the rules of names.
use Rattle.std.specs.Prelude.{List, []}
use Rattle.ti_base.specs.declared.place.Place.{Place}
use Rattle.ti_syntax.specs.Trees.Classes.{TextTree}
use Rattle.ti_rules.specs.declared.rule.Rule.{Rule}
use Rattle.ti_rules.specs.declared.rule.Rule.TheVariants.{N1, N2, N3, N4}
use Rattle.ti_rules.specs.declared.refusal.Refusal.{Refusal}
use Rattle.ti_explain.specs.declared.reason.RefusalReason.{RefusalReason}
use Rattle.ti_explain.specs.NameReasons.{unknown_reasons}
use Rattle.ti_explain.specs.Redeclared.{redeclared_reasons, full_scope_reasons}
use Rattle.ti_explain.specs.MainReasons.{main_reasons}

-- the reasons for this rule at this position
abbrev pub reasons_of_rule : TextTree → Rule → Place → List RefusalReason
reasons_of_rule text N1 p = unknown_reasons text p
reasons_of_rule text N2 p = redeclared_reasons text p
reasons_of_rule text N3 p = main_reasons text p
reasons_of_rule text N4 p = full_scope_reasons text p
reasons_of_rule text _ p = []

abbrev pub refused_name_reasons : TextTree → Refusal → List RefusalReason
refused_name_reasons text refusal = reasons_of_rule text refusal.rule refusal.place
