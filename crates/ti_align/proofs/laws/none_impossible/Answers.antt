use Rattle.ti_lang.specs.Program.Views.{program_of}
use Rattle.ti_align.proofs.Regions.Ended as ended
use Rattle.ti_align.proofs.laws.none_impossible.Goals as goal

pub returns : goal.returns
returns c =
    ended.none_impossible (program_of c.args.checked.now.program.parts) (record { numbered = c.args.checked.now.program.numbered; unbroken = c.args.checked.now.unbroken })
    c.args.checked.now.literals
