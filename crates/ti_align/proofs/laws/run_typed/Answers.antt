use Rattle.ti_lang.specs.Program.Views.{program_of}
use Rattle.ti_align.proofs.Runs.EveryRun as every
use Rattle.ti_align.proofs.laws.run_typed.Goals as goal

pub returns : goal.returns
returns c =
    every.run_typed (program_of c.args.checked.now.program.parts) (record { numbered = c.args.checked.now.program.numbered; unbroken = c.args.checked.now.unbroken })
    c.args.checked.now.literals
