-- Accepted markings.
use Rattle.ti_lang.specs.Program.Classes.{ProgramView}
use Rattle.ti_rules.specs.ProgramRefusals.{BreaksNothing}
use Rattle.ti_blame.specs.Marks.{Marks}
use Rattle.ti_infer.specs.Marked.{marked}

-- the marked program breaks no rule of types, qualifiers and single values
abbrev pub IsAccepted : ProgramView → Marks → Type 0
IsAccepted p m = BreaksNothing (marked m p)
