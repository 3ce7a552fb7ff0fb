-- What `resolve` returns, as its public contract states it.
use Rattle.std.specs.Prelude.{◌≡◌, ◌⊎◌, Result, Ok, Err}
use Rattle.ti_lang.specs.declared.program.numbered.Program.{Program}
use Rattle.ti_syntax.specs.Trees.Classes.{TextTree}
use Rattle.ti_lang.specs.Program.Classes.{ProgramView}
use Rattle.ti_lang.specs.Program.Views.{program_of}
use Rattle.ti_lang.specs.Numbering.{Numbers}
use Rattle.ti_rules.specs.declared.refusal.Refusal.{Refusal}
use Rattle.ti_rules.specs.Refusals.{IsFirstRefusal}
use Rattle.ti_rules.specs.BrokenNames.{BreaksNames}
use Rattle.ti_names.specs.declared.error.NameErr.{NameErr}
use Rattle.ti_names.specs.declared.error.NameErr.TheVariants.{Refused, Memory}

-- the program is that of the tree, the refusal is the first broken naming rule; out of memory is always possible
abbrev pub Resolves : TextTree → Result Program NameErr → Type 0
Resolves text (Ok program) = Numbers text (program_of program.parts)
Resolves text (Err (Refused refusal)) = IsFirstRefusal (BreaksNames text) refusal
Resolves text (Err Memory) = Unit {0}

-- the result is this program or out of memory
abbrev pub GivesOnly : Result Program NameErr → ProgramView → Type 0
GivesOnly (Ok found) program = program_of found.parts ≡ program
GivesOnly (Err error) program = error ≡ Memory

-- the result is this refusal or out of memory
abbrev pub RefusesOnly : Result Program NameErr → Refusal → Type 0
RefusesOnly (Ok found) refusal = ⊥
RefusesOnly (Err error) refusal = (error ≡ Refused refusal) ⊎ (error ≡ Memory)
