-- The error of a program, as a function.
use Rattle.std.specs.Prelude.{Option}
use Rattle.std.specs.Option.{option_or}
use Rattle.ti_lang.specs.Program.Classes.{ProgramView}
use Rattle.ti_rules.specs.declared.refusal.Refusal.{Refusal}
use Rattle.ti_rules.specs.TypeRules.{type_refusals}
use Rattle.ti_rules.specs.SingleRules.{single_refusals}
use Rattle.ti_rules.specs.Mirrors.First.{earliest}

-- the first error by the rules of types and qualifiers, or, if there is none, the first by the rules of single values
abbrev pub program_refusal : ProgramView → Option Refusal
program_refusal p = option_or (earliest (type_refusals p)) (earliest (single_refusals p))
