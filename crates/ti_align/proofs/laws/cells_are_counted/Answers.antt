use Rattle.ti_lang.specs.Program.Views.{program_of}
use Rattle.ti_align.proofs.Regions.Dangling as dangling
use Rattle.ti_align.proofs.laws.cells_are_counted.Goals as goal

pub returns : goal.returns
returns c =
    dangling.cells_are_counted (program_of c.args.checked.now.program.parts) (record { numbered = c.args.checked.now.program.numbered; unbroken = c.args.checked.now.unbroken })
    c.args.checked.now.literals
