use Rattle.ti_lang.specs.Program.Views.{program_of}
use Rattle.ti_align.proofs.TextTypes.Programs as programs
use Rattle.ti_align.proofs.laws.fields_fit.Goals as goal

pub returns : goal.returns
returns c = programs.fields_fit (program_of c.args.checked.now.program.parts) (record { numbered = c.args.checked.now.program.numbered; unbroken = c.args.checked.now.unbroken })
