-- What `check` and `check_types` return, as their public contracts state it.
use Rattle.std.specs.Prelude.{◌≡◌, [], Contains, Result, Ok, Err}
use Rattle.ti_lang.specs.declared.program.numbered.Program.{Program}
use Rattle.ti_lang.specs.Program.Classes.{ProgramView}
use Rattle.ti_lang.specs.Program.Views.{program_of}
use Rattle.ti_rules.specs.declared.checked.Checked.{Checked}
use Rattle.ti_rules.specs.Refusals.{IsFirstRefusal}
use Rattle.ti_rules.specs.TypeRules.{type_refusals}
use Rattle.ti_rules.specs.ProgramRefusals.{IsProgramRefusal, BreaksNothing}
use Rattle.ti_check.specs.declared.error.CheckErr.{CheckErr}
use Rattle.ti_check.specs.declared.error.CheckErr.TheVariants.{Refused, Memory}

-- the same program if it breaks no rule, else its first error; out of memory is always possible
abbrev pub GivesChecked : Program → Result Checked CheckErr → Type 0
GivesChecked p (Ok checked) = (checked.program ≡ p) × BreaksNothing (program_of p.parts)
GivesChecked p (Err (Refused refusal)) = IsProgramRefusal (program_of p.parts) refusal
GivesChecked p (Err Memory) = Unit {0}

-- success if no rule of types and qualifiers is broken, else the first broken one; out of memory is always possible
abbrev pub GivesTyped : {T : Type 0} → ProgramView → Result T CheckErr → Type 0
GivesTyped p (Ok nothing) = type_refusals p ≡ []
GivesTyped p (Err (Refused refusal)) = IsFirstRefusal (Contains (type_refusals p)) refusal
GivesTyped p (Err Memory) = Unit {0}
