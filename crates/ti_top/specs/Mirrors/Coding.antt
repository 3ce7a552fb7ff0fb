-- Nobody has to believe this: it mirrors code, and only contracts of private functions speak of it.
-- What writing the code of a program leaves.
use Rattle.std.specs.Prelude.{◌≡◌, true, Option, None, Some}
use Rattle.ti_io.specs.Faults.{Rose}
use Rattle.ti_io.specs.Sink.{SinkState, GrewBy, GrewByFront}
use Rattle.ti_lang.specs.Program.Classes.{ProgramView}
use Rattle.ti_code.specs.CodeText.{code_text}
use Rattle.ti_code.specs.Follows.{Follows}
use Rattle.ti_code.specs.Programs.{Code}
use Rattle.ti_lower.specs.Programs.{program_code}
use Rattle.ti_top.specs.declared.exit.Exit.{Exit}
use Rattle.ti_top.specs.declared.exit.Exit.TheVariants.{Done, CantWrite, NoMemory}

-- the code of a program, which follows it, was written up to the first call that failed
pub record WroteCode (program : ProgramView) (out out_after : SinkState) (code : Option Code) (ending : Exit) : Type 0 where
  pub there : code ≡ Some (program_code program)
  pub follows : Follows (program_code program) program
  pub rose : ending ≡ CantWrite → Rose out.faults out_after.faults
  pub all : ending ≡ Done → out.tells ≡ true → GrewBy out out_after (code_text (program_code program))
  pub part : out.tells ≡ true → GrewByFront out out_after (code_text (program_code program))

-- what became of a program whose code is to be written
abbrev pub CodeSays : Exit → ProgramView → SinkState → SinkState → Option Code → Type 0
CodeSays Done program out out_after code = WroteCode program out out_after code Done
CodeSays CantWrite program out out_after code = WroteCode program out out_after code CantWrite
CodeSays NoMemory program out out_after code = (out_after ≡ out) × (code ≡ None)
CodeSays ending program out out_after code = ⊥
