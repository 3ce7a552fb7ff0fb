use Rattle.ti_lang.specs.Program.Views.{program_of}
use Rattle.ti_align.proofs.Regions.Ended as ended
use Rattle.ti_align.proofs.laws.regions_made.Goals as goal

pub returns : goal.returns
returns c =
    ended.regions_made (program_of c.args.checked.now.program.parts) (record { numbered = c.args.checked.now.program.numbered; unbroken = c.args.checked.now.unbroken })
    c.args.checked.now.literals
