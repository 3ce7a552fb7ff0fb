use Rattle.ti_lang.specs.Program.Views.{program_of}
use Rattle.ti_lower.proofs.Programs.{checked_follows}
use Rattle.ti_lower.proofs.laws.code_follows.Goals as goal

pub returns : goal.returns
returns c = checked_follows (program_of c.args.checked.now.program.parts) (record { numbered = c.args.checked.now.program.numbered; unbroken = c.args.checked.now.unbroken })
