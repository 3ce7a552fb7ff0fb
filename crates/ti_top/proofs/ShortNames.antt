-- Codes and texts of rules and names of faults are short.
use Rattle.std.proofs.Common.{◌≤◌, length, lit≤}
use Rattle.ti_base.specs.declared.fault.FaultKind.{FaultKind}
use Rattle.ti_base.specs.declared.fault.FaultKind.TheVariants.{DivZero}
use Rattle.ti_base.specs.FaultNames.{name_of}
use Rattle.ti_rules.specs.declared.rule.Rule.{Rule}
use Rattle.ti_rules.specs.declared.rule.Rule.TheVariants.{X1}
use Rattle.ti_rules.specs.Rules.{code_of, text_of}

pub short_code : (rule : Rule) → length (code_of rule) ≤ 2
short_code X1 = lit≤ tt
short_code rule = lit≤ tt

pub short_text : (rule : Rule) → length (text_of rule) ≤ 64
short_text X1 = lit≤ tt
short_text rule = lit≤ tt

pub short_name : (kind : FaultKind) → length (name_of kind) ≤ 16
short_name DivZero = lit≤ tt
short_name kind = lit≤ tt
